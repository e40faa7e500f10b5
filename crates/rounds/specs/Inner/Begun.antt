-- What is known before the first round: over nothing a pair leads to itself, and elements with nothing within them have length 1.
use Rattle.std.specs.Prelude.{◌≡◌, List, ℕ, ◌^◌, ◌<◌, length}
use Rattle.automata.specs.Target.{Target}
use Rattle.relaxation.specs.Inner.Pairs.{pair_count, form_part, target_part}
use Rattle.relaxation.specs.Inner.PairSet.{Gains}
use Rattle.relaxation.specs.Inner.Lengths.{length_of}
use Rattle.relaxation.specs.Inner.Relaxation.{AroundAny}

-- a pair of one of n target states, and the same pair
abbrev pub Itself : ℕ → ℕ → ℕ → Type 0
Itself n x z = (x ≡ z) × (target_part x < n)

-- each of these pairs is reached from itself with no element
pub record Stayed (n : ℕ) (lengths known settled into lengths' known' settled' into' : List ℕ) : Type 0 where
  pub long : length lengths' ≡ length lengths
  pub here : (x : ℕ) → x < pair_count → target_part x < n → length_of lengths' x x ≡ 0
  pub others : (x z : ℕ) → x < pair_count → z < pair_count → ¬ Itself n x z → length_of lengths' x z ≡ length_of lengths x z
  pub knows : Gains known known' (Itself n)
  pub settles : Gains settled settled' (Itself n)
  pub turns : Gains into into' (Itself n)

-- the elements with nothing within them, around each pair below m of one of the target's states
abbrev pub EmptyInside : Target → List ℕ → ℕ → ℕ → ℕ → ℕ → Type 0
EmptyInside A links m x' z' k' =
    (y : ℕ) × (y < m) × (target_part y < A.states) × AroundAny A links y (form_part y) (2 ^ target_part y) 1 x' z' k'
