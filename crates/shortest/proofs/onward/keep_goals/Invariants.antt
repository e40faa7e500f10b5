-- `shortest::onward::keep_goals` meets its contract: the goals passed are kept whose shortest way goes on.
use Rattle.std.proofs.Common.{◌≡◌}
use Rattle.relaxation.specs.Inner.PairSet.{Gains}
use Rattle.shortest.proofs.OnwardLaws.{Kept}
use Rattle.shortest.proofs.onward.keep_goals.Given as goal

abbrev pub invariant-loop-z : goal.invariant-loop-z
invariant-loop-z l =
    let i = l.z-iterator in
    (i.table.now ≡ l.goals.masks) × (i.x ≡ l.p) × Gains l.initial.next.masks l.next.masks
    (Kept l.lengths.table.now l.goals.masks l.p l.x l.s l.y l.e i.from)
