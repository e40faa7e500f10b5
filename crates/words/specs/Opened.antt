-- How many elements are open after some tags (SPEC 1.5).
use Rattle.std.specs.Prelude.{[], ◌∷◌, ℕ, suc, pred, take}
use Rattle.words.specs.Tag.{opening, closing, Word}

-- after a word, with k open before it
abbrev pub open_after : Word → ℕ → ℕ
open_after [] k = k
open_after (opening c ∷ w) k = open_after w (suc k)
open_after (closing c ∷ w) k = open_after w (pred k)

-- at a position of a word
unfoldable pub open_at : Word → ℕ → ℕ
open_at w position = open_after (take position w) 0
