-- `relaxation::pairs::Members::next` meets its contract: no pair from where it begins on and below where it stands is a member; a turn
-- finds a member in that pair's mask or passes the mask.
use mathlib.Core.Path.{◌≡◌}
use Prim.Native.Nat.{ℕ, ◌-◌, ◌<◌, ◌≤◌}
use Rattle.relaxation.specs.Inner.Pairs.{pair_count}
use Rattle.relaxation.specs.Inner.PairSet.{Member}
use Rattle.relaxation.proofs.pairs.MembersIterator.next.Given as goal

abbrev pub invariant-loop-self : goal.invariant-loop-self
invariant-loop-self l =
    let old = l.fn.self in
    (l.self.table ≡ old.table) × (l.self.x ≡ old.x) × (old.from ≤ l.self.from) × (l.self.from ≤ pair_count) ×
    ((k : ℕ) → old.from ≤ k → k < l.self.from → ¬ Member old.table.now old.x k)

abbrev pub decreases-loop-self : goal.decreases-loop-self
decreases-loop-self l = pair_count - l.self.from
