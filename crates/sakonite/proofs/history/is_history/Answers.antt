-- `history::is_history` meets its contract: past a step the bytes left are a history exactly where all of them are.
use Rattle.sakonite.proofs.HistoryLaws.{step_history}
use Rattle.sakonite.proofs.history.is_history.Goals as goal

pub loop-step-preserved : goal.loop-step-preserved
loop-step-preserved c =
    let s = step_history c.in-Some.step c.in-Some.ensures in
    (λ x. c.loop-step.invariant.0 (s.0 x), λ x. s.1 (c.loop-step.invariant.1 x))
