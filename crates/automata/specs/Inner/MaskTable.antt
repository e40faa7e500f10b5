-- Tables of masks, and loops that put masks into them. It is how the code for replies and for effects looks at its tables.
use Rattle.std.specs.Prelude.{◌≡◌, Bool, true, cond, List, ℕ, zero, suc, get_or, set}
use Rattle.std.specs.Int.Bits.{bit_or}
use Rattle.automata.specs.Bits.{bit}

-- s is in the set at index i
abbrev pub Has : List ℕ → ℕ → ℕ → Type 0
Has t i s = bit (get_or t i 0) s ≡ true

-- every set is empty
abbrev pub Empty : List ℕ → Type 0
Empty t = (i : ℕ) → get_or t i 0 ≡ 0

-- a mask is put to the one at an index
abbrev pub put : List ℕ → ℕ → ℕ → List ℕ
put t i m = set t i (bit_or (get_or t i 0) m)

-- the table after n turns of a loop, by what a turn makes of a table
unfoldable pub turns : (ℕ → List ℕ → List ℕ) → ℕ → List ℕ → List ℕ
turns f zero t = t
turns f (suc k) t = f k (turns f k t)

-- what a loop puts: whether turn k puts anything, where, and which mask
pub record Plan : Type 0 where
  pub when : ℕ → Bool
  pub at : ℕ → ℕ
  pub mask : ℕ → ℕ

abbrev pub turn_of : Plan → ℕ → List ℕ → List ℕ
turn_of P k t = cond (P.when k) (put t (P.at k) (P.mask k)) t

unfoldable pub puts : Plan → ℕ → List ℕ → List ℕ
puts P n t = turns (turn_of P) n t
