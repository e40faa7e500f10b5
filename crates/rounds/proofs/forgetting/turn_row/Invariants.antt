-- `rounds::forgetting::turn_row` meets its contract: the sets of the ends passed have the row.
use mathlib.Core.Path.{◌≡◌}
use mathlib.Core.List.{List}
use Prim.Native.Nat.{ℕ}
use lib.ListN.{length}
use Rattle.relaxation.specs.Inner.PairSet.{mask_count, Member, Gains}
use Rattle.relaxation.proofs.GainsLaws.{Passed}
use Rattle.rounds.proofs.forgetting.turn_row.Given as goal

-- what the turn at z brings: x for z
abbrev pub Turned : List ℕ → ℕ → ℕ → ℕ → Type 0
Turned fresh x z' x' = (x' ≡ x) × Member fresh x z'

abbrev pub invariant-loop-z : goal.invariant-loop-z
invariant-loop-z l =
    let s = l.z-iterator in
    (s.table.now ≡ l.fresh) × (s.x ≡ l.x) ×
    Gains l.initial.into l.into (Passed (λ z' x'. z') (Turned l.fresh l.x) s.from) × (length l.into ≡ mask_count)
