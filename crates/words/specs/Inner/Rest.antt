-- What is left of a well-nested word where some elements are open.
use Rattle.std.specs.Prelude.{◌≡◌, [], ◌∷◌, ◌++◌, ℕ, zero, suc, ◌+◌, ◌≤◌}
use Rattle.words.specs.Tag.{opening, closing, Word}
use Rattle.words.specs.Forest.{Forest, tags, depth}

-- With k elements open: a forest before each of their closing tags, and one after the last. Nowhere are more than m open together.
pub data Rest (m : ℕ) : ℕ → Word → Type 0 where
  last : {w : Word} (f : Forest) → w ≡ tags f → depth f ≤ m → Rest m zero w
  inner : {k : ℕ} {v w : Word} (f : Forest) (c : ℕ) → w ≡ tags f ++ closing c ∷ v → Rest m k v → suc k + depth f ≤ m → Rest m (suc k) w

-- what is left with k elements open, however many are open together
abbrev pub Closes : ℕ → Word → Type 0
Closes k w = (m : ℕ) × Rest m k w

-- the index of the first closing tag of an element that was open before, with k opened since
abbrev pub closing_index : Word → ℕ → ℕ
closing_index [] k = 0
closing_index (opening c ∷ w) k = suc (closing_index w (suc k))
closing_index (closing c ∷ w) zero = 0
closing_index (closing c ∷ w) (suc k) = suc (closing_index w k)
