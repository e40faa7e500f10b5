-- A word that no closing tag ends: a forest after it is the longest that ends where it ends.
use Rattle.std.specs.Prelude.{◌≡◌, ◌⊎◌, [], ◌∷◌, ◌++◌, ℕ}
use Rattle.words.specs.Tag.{opening, Word}

abbrev pub Unclosed : Word → Type 0
Unclosed u = (u ≡ []) ⊎ ((v : Word) × (c : ℕ) × (u ≡ v ++ (opening c ∷ [])))
