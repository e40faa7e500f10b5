-- The sets that go with effects: a state is in the set of a code at a state unless it is told to be unreached.
use Rattle.std.specs.Prelude.{Bool, true, false, cond, List, ℕ, zero, suc, ◌*◌, ◌/◌, ◌%◌, ◌^◌}
use Rattle.std.specs.Int.Bits.{bit_or}
use Rattle.words.specs.Lists.{tabulated}
use Rattle.words.specs.Tag.{codes}
use Rattle.automata.specs.TargetBody.{most_states}
use Rattle.effects.specs.Effects.{shortest_at}
use Rattle.effects.specs.declared.Effects.{Effects}
use Rattle.effects.specs.declared.Shortest.{Shortest}
use Rattle.effects.specs.declared.Shortest.TheVariants.{Unreached, Tags, Longer}

abbrev pub reached : Shortest → Bool
reached Unreached = false
reached (Tags n) = true
reached Longer = true

-- the mask of the numbers below n that pass
unfoldable pub mask_below : (ℕ → Bool) → ℕ → ℕ
mask_below p zero = 0
mask_below p (suc n) = cond (p n) (bit_or (mask_below p n) (2 ^ n)) (mask_below p n)

-- the set of code c at q, as a mask
unfoldable pub effect_at : Effects → ℕ → ℕ → ℕ
effect_at E c q = mask_below (λ s. reached (shortest_at E c q s)) most_states

-- a set for each code and each state that a target may have
abbrev pub set_count : ℕ
set_count = codes * most_states

unfoldable pub sets_of : Effects → List ℕ
sets_of E = tabulated (λ i. effect_at E (i / most_states) (i % most_states)) 0 set_count
