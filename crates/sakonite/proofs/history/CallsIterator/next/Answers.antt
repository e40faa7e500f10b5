-- The next call of a history is its first, and the others are left.
use Rattle.sakonite.proofs.HistoryLaws.{rest_written, calls_after, calls_fewer}
use Rattle.sakonite.proofs.history.CallsIterator.next.Goals as goal

pub invariant_of-self : goal.invariant_of-self
invariant_of-self c = record { are_written = rest_written c.in_ok-step.step c.in_ok-step.ensures c.args.self.now.are_written }

pub returns-clause-steps : goal.returns-clause-steps
returns-clause-steps c = calls_after c.in_ok-step.step c.in_ok-step.ensures c.args.self.now.are_written

pub returns-clause-goes : goal.returns-clause-goes
returns-clause-goes c =
    let fewer = calls_fewer c.in_ok-step.step c.in_ok-step.ensures c.args.self.now.are_written in
    record { on = λ _. (tt, tt, fewer); keeps = tt; rests = λ _. tt }
