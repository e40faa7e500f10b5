-- The next element of a mask.
use Rattle.std.specs.Prelude.{◌≡◌, true, false, ℕ, ◌<◌, ◌≤◌}
use Rattle.automata.specs.Bits.{bit}
use Rattle.automata.specs.TargetBody.{most_states}

-- r is the first element of m that is not below `from`, or there is none
pub record NextIn (m from r : ℕ) : Type 0 where
  pub from_on : from ≤ r
  pub within : r ≤ most_states
  pub none : (i : ℕ) → from ≤ i → i < r → bit m i ≡ false
  pub there : r < most_states → bit m r ≡ true
