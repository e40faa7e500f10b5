-- Every byte from index p on is below n.
use Rattle.std.specs.Prelude.{List, ℕ, ◌<◌, ◌≤◌, length, get_or}

abbrev pub BytesBelow : List ℕ → ℕ → ℕ → Type 0
BytesBelow s p n = (k : ℕ) → p ≤ k → k < length s → get_or s k 0 < n
