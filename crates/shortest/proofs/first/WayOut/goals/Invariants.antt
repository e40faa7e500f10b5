-- `shortest::first::WayOut::goals` meets its contract: the goals among the pairs passed are there.
use Rattle.std.proofs.Common.{replicate}
use Rattle.relaxation.specs.Inner.PairSet.{Gains}
use Rattle.relaxation.proofs.GainsLaws.{Passed}
use Rattle.shortest.specs.Inner.Wanted.{goal_count}
use Rattle.shortest.proofs.LeastOutsideLaws.{GoalBy}
use Rattle.shortest.proofs.first.WayOut.goals.Given as goal

abbrev pub invariant-loop-z : goal.invariant-loop-z
invariant-loop-z l =
    Gains (replicate goal_count 0) l.goals.masks
    (Passed (λ p z'. z') (GoalBy l.self.lengths.table.now l.from l.self.q l.accepted l.self.set l.k) l.z)
