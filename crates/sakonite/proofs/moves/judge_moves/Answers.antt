-- `moves::judge_moves` meets its contract: bytes that are no history, and else the calls decide.
use mathlib.Core.Path.{sym, ◌∙◌}
use mathlib.Core.Bool.{false≢true}
use Rattle.sakonite.proofs.HistoryLaws.{calls_written}
use Rattle.sakonite.proofs.AnswerLaws.{played_none, played_calls}
use Rattle.sakonite.proofs.moves.judge_moves.Goals as goal

pub returns-then-not-is_history : goal.returns-then-not-is_history
returns-then-not-is_history c =
    played_none c.args.file.file.now c.args.history.now c.args.room c.args.file.found.accepted
    (λ x. false≢true (sym c.if-not-is_history.true ∙ c.is_history.ensures.1 x))

pub invariant_of-judge_each : goal.invariant_of-judge_each
invariant_of-judge_each c =
    record { are_written = calls_written c.args.history.now (c.is_history.ensures.0 c.if-not-is_history.false) }

pub returns : goal.returns
returns c =
    played_calls c.args.file.file.now c.args.history.now c.args.room c.args.file.found.accepted
    (c.is_history.ensures.0 c.if-not-is_history.false) c.judge_each.result c.judge_each.ensures
