-- `entries::load_after` meets its contract.
use mathlib.Core.Path.{sym, ◌∙◌, ap}
use Rattle.std.proofs.lemmas.Result.{err_from_is_err_and}
use Rattle.sakonite.specs.Played.{ample}
use Rattle.sakonite.proofs.AnswerLaws.{file_refused, same_history, history_accepted, history_fits}
use Rattle.sakonite.proofs.entries.load_after.Goals as goal

pub returns-in_err-job : goal.returns-in_err-job
returns-in_err-job c =
    let p = err_from_is_err_and c.from_residual.result c.from_residual.ensures.1 in
    rw (p.1, p.2) (file_refused c.args.file.now c.args.history.now ample _ c.in_err-job.ensures)

pub returns-in_err-play : goal.returns-in_err-play
returns-in_err-play c =
    let p = err_from_is_err_and c.from_residual-in_err-play.result c.from_residual-in_err-play.ensures.1 in
    rw (p.1, p.2) (sym (same_history c.args.file.now c.args.history.now) ∙ rw c.accepted-accepted.ensures at c.in_err-play.ensures)

pub invariant_of-result : goal.invariant_of-result
invariant_of-result c =
    let played = rw c.accepted-accepted.ensures at c.in_ok-play.ensures in
    rw c.accepted-accepted.ensures
    (record { fits = history_fits c.args.file.now c.args.history.now _ played; found = ∣ c.in_ok-job.ensures.effects ∣₁ })

pub returns : goal.returns
returns c =
    let played = rw c.accepted-accepted.ensures at c.in_ok-play.ensures in
    (history_accepted c.args.file.now c.args.history.now _ played, played.1, ap (λ f. f.now) c.accepted-accepted.ensures)
