-- The states that a mask has, in rising order: from those from a number on, the next one of the mask is given.
use mathlib.Core.Path.{◌≡◌, sym, ◌∙◌}
use mathlib.Core.Bool.{false, true≢false}
use Rattle.std.specs.Prelude.{None, Some}
use Prim.Native.Nat.{ℕ, ◌+◌, ◌<◌, ◌≤◌}
use native.Mathlib.Omega.{arith}
use native.Mathlib.Decide.{dec_lt}
use Rattle.automata.specs.Bits.{bit}
use Rattle.automata.specs.TargetBody.{most_states}
use Rattle.automata.specs.Inner.NextIn.{NextIn}
use Rattle.automata.specs.Inner.StatesIn.{StatesFrom, NextState}
use Rattle.automata.specs.declared.bits.States.{States}

module _ {mask from : ℕ} {old new : States} (f : StatesFrom mask from old) where
  pub next_given : {r : ℕ} → NextState old (Some r) new → NextIn mask from r × (r < most_states) × StatesFrom mask (r + 1) new
  next_given {r} (n, h, s) =
      let on : from ≤ r = elim (dec_lt r from) [
        | yes l ↦ absurd (true≢false (sym (n.there h) ∙ f.below r l))
        | no l ↦ omega arith
      ] in (
        record {
          from_on = on;
          within = n.within;
          none = λ i a b. sym (f.onward i a) ∙ n.none i (omega arith) b;
          there = λ l. sym (f.onward r on) ∙ n.there l;
        },
        h,
        record { below = s.below; onward = λ i l. s.onward i l ∙ f.onward i (omega arith) },
      )

  pub none_given : NextState old None new → (i : ℕ) → from ≤ i → bit mask i ≡ false
  none_given (e, n) i h = sym (f.onward i h) ∙ n i

  -- past the last of them there is none
  pub none_left : from ≤ most_states → NextState old None new → NextIn mask from most_states
  none_left h n =
      record { from_on = h; within = omega arith; none = λ i a b. none_given n i a; there = λ l. absurd (omega arith) }
