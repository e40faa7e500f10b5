-- Rows are settled: the lengths that a round is for count from now on as settled, known and new.
use Rattle.std.specs.Prelude.{◌≡◌, ◌⊎◌, List, ℕ, Option, None, Some, ◌<◌, ◌≤◌, length, get_or}
use Rattle.relaxation.specs.Inner.Pairs.{pair_count}
use Rattle.relaxation.specs.Inner.PairSet.{Member, Gains}
use Rattle.relaxation.specs.Inner.Lengths.{length_of, no_length}

-- not settled before, and with the length of the round
abbrev pub Due : List ℕ → List ℕ → ℕ → ℕ → ℕ → Type 0
Due lengths settled l x z = (length_of lengths x z ≡ l) × ¬ Member settled x z

-- the least length that is not settled in row x
pub record LeastLeft (lengths settled least : List ℕ) (x : ℕ) : Type 0 where
  pub below : (z : ℕ) → z < pair_count → ¬ Member settled x z → get_or least x 0 ≤ length_of lengths x z
  pub from : get_or least x 0 < no_length → (z : ℕ) × (z < pair_count) × (¬ Member settled x z) × (length_of lengths x z ≡ get_or least x 0)

-- row x was settled for length l
pub record RowSettled (lengths : List ℕ) (x l : ℕ) (least settled known fresh least' settled' known' fresh' : List ℕ) : Type 0 where
  pub settles : Gains settled settled' (λ x' z. (x' ≡ x) × Due lengths settled l x z)
  pub knows : Gains known known' (λ x' z. (x' ≡ x) × Due lengths settled l x z)
  pub freshens : Gains fresh fresh' (λ x' z. (x' ≡ x) × Due lengths settled l x z)
  pub long : length least' ≡ length least
  pub others : (x' : ℕ) → (x' ≡ x → ⊥) → get_or least' x' 0 ≡ get_or least x' 0
  pub left : LeastLeft lengths settled' least' x

-- The rows below n were settled for length l, if their least length was l; the set of 0 in `rows` has these rows.
pub record RowsSettled (lengths : List ℕ) (n l : ℕ) (least settled known fresh least' settled' known' fresh' rows rows' : List ℕ)
    : Type 0 where
  pub settles : Gains settled settled' (λ x z. (x < n) × (get_or least x 0 ≡ l) × Due lengths settled l x z)
  pub knows : Gains known known' (λ x z. (x < n) × (get_or least x 0 ≡ l) × Due lengths settled l x z)
  pub freshens : Gains fresh fresh' (λ x z. (x < n) × (get_or least x 0 ≡ l) × Due lengths settled l x z)
  pub long : length least' ≡ length least
  pub others : (x : ℕ) → (n ≤ x) ⊎ ¬ (get_or least x 0 ≡ l) → get_or least' x 0 ≡ get_or least x 0
  pub left : (x : ℕ) → x < n → x < pair_count → get_or least x 0 ≡ l → LeastLeft lengths settled' least' x
  pub noted : Gains rows rows' (λ y x. (y ≡ 0) × (x < n) × (get_or least x 0 ≡ l))

-- l is a length that is left, and the least of all rows
pub record LeastRow (least : List ℕ) (l : ℕ) : Type 0 where
  pub below : (x : ℕ) → x < pair_count → l ≤ get_or least x 0
  pub from : (x : ℕ) × (x < pair_count) × (get_or least x 0 ≡ l)
  pub some : l < no_length

-- the least of all rows, or that nothing is left in any
abbrev pub LeastOfRows : List ℕ → Option ℕ → Type 0
LeastOfRows least None = (x : ℕ) → x < pair_count → no_length ≤ get_or least x 0
LeastOfRows least (Some l) = LeastRow least l
