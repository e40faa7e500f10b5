-- Well-nested words and their depth (SPEC 1.3 to 1.6).
use Rattle.std.specs.Prelude.{◌≡◌, [], ◌∷◌, ◌++◌, ℕ, suc, max}
use Rattle.words.specs.Tag.{opening, closing, Word, IsCode}

-- What a well-nested word spells, element by element (SPEC 1.6, 10.2: its canonical forest representation). `elem` is an "element"
-- (SPEC 1.4), with its code, the forest within it and the forest after it.
pub data Forest : Type 0 where
  none : Forest
  elem : ℕ → Forest → Forest → Forest

-- the word that a forest spells: its two cases are the two ways to make a well-nested word (SPEC 1.3)
abbrev pub tags : Forest → Word
tags none = []
tags (elem c f g) = opening c ∷ (tags f ++ closing c ∷ tags g)

-- every code of the forest is one
abbrev pub Coded : Forest → Type 0
Coded none = Unit {0}
Coded (elem c f g) = IsCode c × Coded f × Coded g

-- "well nested": some forest spells the word (SPEC 1.3)
pub record WellNested (w : Word) : Type 0 where
  pub forest : Forest
  pub coded : Coded forest
  pub spells : tags forest ≡ w

-- "depth" (SPEC 1.5)
abbrev pub depth : Forest → ℕ
depth none = 0
depth (elem c f g) = max (suc (depth f)) (depth g)
