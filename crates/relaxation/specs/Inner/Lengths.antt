-- A table of lengths, one for each two pairs. Lengths are counted in elements, and 2,049 stands for itself and for every larger number.
use Rattle.std.specs.Prelude.{◌≡◌, ◌⊎◌, List, ℕ, ◌+◌, ◌*◌, ◌<◌, ◌≤◌, min, get_or}
use Rattle.relaxation.specs.Inner.Pairs.{pair_count}

abbrev pub length_count : ℕ
length_count = pair_count * pair_count

abbrev pub length_index : ℕ → ℕ → ℕ
length_index x z = pair_count * x + z

unfoldable pub length_of : List ℕ → ℕ → ℕ → ℕ
length_of t x z = get_or t (length_index x z) 0

abbrev pub length_cap : ℕ
length_cap = 2049

abbrev pub capped : ℕ → ℕ
capped n = min n length_cap

-- no length: nothing leads there
abbrev pub no_length : ℕ
no_length = 65535

-- k is the least of the numbers that f has for those below n that count, or there is none
pub record LeastOf (Counts : ℕ → Type 0) (f : ℕ → ℕ) (n k : ℕ) : Type 0 where
  pub below : (i : ℕ) → i < n → Counts i → k ≤ f i
  pub from : (k ≡ no_length) ⊎ ((i : ℕ) × (i < n) × Counts i × (f i ≡ k))
