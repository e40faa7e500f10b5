-- `shortest::stops::on_way` meets its contract: y is on a shortest way to no goal so far.
use Rattle.std.proofs.Common.{◌≡◌, ℕ, ◌<◌}
use Rattle.relaxation.specs.Inner.PairSet.{Member}
use Rattle.relaxation.specs.Inner.Lengths.{length_of}
use Rattle.shortest.specs.Inner.Stops.{GoesOver}
use Rattle.shortest.proofs.stops.on_way.Given as goal

abbrev pub invariant-loop-z : goal.invariant-loop-z
invariant-loop-z l =
    let i = l.z-iterator in
    let lengths = l.lengths.table.now in
    (i.table.now ≡ l.goals.masks) × (i.x ≡ l.p) ×
    ((z : ℕ) → z < i.from → Member l.goals.masks l.p z → ¬ GoesOver lengths l.x l.y z (length_of lengths l.x l.y))
