-- The states that a mask has, in rising order, as an iterator: what it has left are those from a number on.
use Rattle.std.specs.Prelude.{◌≡◌, false, Option, None, Some, ℕ, ◌+◌, ◌<◌, ◌≤◌}
use Rattle.automata.specs.Bits.{bit}
use Rattle.automata.specs.TargetBody.{most_states}
use Rattle.automata.specs.Inner.NextIn.{NextIn}
use Rattle.automata.specs.declared.bits.States.{States}

-- those from a number on
pub record StatesFrom (mask from : ℕ) (s : States) : Type 0 where
  pub below : (i : ℕ) → i < from → bit s.rest i ≡ false
  pub onward : (i : ℕ) → from ≤ i → bit s.rest i ≡ bit mask i

-- the first one is given, and those after it are left, or there is none
abbrev pub NextState : States → Option ℕ → States → Type 0
NextState old None new = (new.rest ≡ old.rest) × ((i : ℕ) → bit old.rest i ≡ false)
NextState old (Some r) new = NextIn old.rest 0 r × (r < most_states) × StatesFrom old.rest (r + 1) new
