-- The effects of reply forms, for each code that has a form and each two states of the target (SPEC 2.11, 2.12). How they lie in memory is
-- this crate's to know: who is above it asks `shortest_at`.
use Rattle.std.specs.Prelude.{◌≡◌, Bool, true, false, cond, ◌⊎◌, ℕ, zero, suc, ◌+◌, ◌*◌, ◌<◌, ◌≤◌, ltb, length, get_or, replicate}
use Rattle.words.specs.Tag.{codes}
use Rattle.automata.specs.Target.{Target}
use Rattle.automata.specs.TargetBody.{most_states}
use Rattle.automata.specs.Reply.{Form}
use Rattle.effects.specs.Effect.{Effect, Least, Long, most_counted}
use Rattle.effects.specs.declared.Effects.{Effects}
use Rattle.effects.specs.declared.Shortest.{Shortest}
use Rattle.effects.specs.declared.Shortest.TheVariants.{Unreached, Tags, Longer}

-- what is told of s at q is so: no lawful reply reaches it; or the least number of tags is n, at most 4,096; or it is larger
abbrev pub Told : Target → Form → ℕ → ℕ → Shortest → Type 0
Told A F q s Unreached = ¬ Effect A F q s
Told A F q s (Tags n) = (n ≤ most_counted) × Least A F q s n
Told A F q s Longer = Long A F q s

-- a number for each code and each two states that a target may have
abbrev pub form_numbers : ℕ
form_numbers = most_states * most_states

abbrev pub number_count : ℕ
number_count = codes * form_numbers

-- all of them are there
abbrev pub Sized : Effects → Type 0
Sized E = length E.numbers ≡ number_count

-- where the number of code c for q and s stands
abbrev pub number_index : ℕ → ℕ → ℕ → ℕ
number_index c q s = form_numbers * c + (most_states * q + s)

-- how a number stands for what it tells: 0 for a state that is not reached, else one more than the elements of the shortest reply, which
-- has two tags for each
unfoldable pub told : ℕ → Shortest
told zero = Unreached
told (suc k) = cond (ltb most_counted (2 * k)) Longer (Tags (2 * k))

-- the number that stands for what is longer, the one after those that are counted
abbrev pub long_number : ℕ
long_number = 2050

-- what is told of code c, from q to s
unfoldable pub shortest_at : Effects → ℕ → ℕ → ℕ → Shortest
shortest_at E c q s = told (get_or E.numbers (number_index c q s) 0)

-- The effects of the forms of those codes that have one. Of every other code and state nothing is reached. All numbers are there, and what
-- is longer has one number, so that effects are determined to the byte: `effects_exactly`.
pub record EffectsOf (A : Target) (has : ℕ → Bool) (forms : ℕ → Form) (E : Effects) : Type 0 where
  pub exact : (c q s : ℕ) → has c ≡ true → q < A.states → s < most_states → Told A (forms c) q s (shortest_at E c q s)
  pub nothing : (c q s : ℕ) → q < most_states → s < most_states → (has c ≡ false) ⊎ (A.states ≤ q) → shortest_at E c q s ≡ Unreached
  pub sized : Sized E
  pub numbered : (i : ℕ) → get_or E.numbers i 0 ≤ long_number

-- where no code has a form
unfoldable pub no_effects : Effects
no_effects = record { numbers = replicate number_count 0 }
