-- How long the word of a forest is: an element has two tags, so a well-nested word has an even number of them.
use mathlib.Core.Path.{◌≡◌, refl, sym, ◌∙◌, ap}
use mathlib.Core.List.{◌∷◌}
use Prim.Native.Nat.{ℕ, suc, ◌+◌, ◌*◌}
use native.Mathlib.Omega.{arith}
use lib.ListN.{length, length-append}
use Rattle.words.specs.Tag.{closing, Word}
use Rattle.words.specs.Forest.{Forest, none, elem, tags, WellNested}

-- how many elements a forest has
abbrev pub elements : Forest → ℕ
elements none = 0
elements (elem c f g) = suc (elements f + elements g)

pub tags_long : (f : Forest) → length (tags f) ≡ 2 * elements f
tags_long none = refl
tags_long (elem c f g) =
    let long = length-append (tags f) (closing c ∷ tags g) in
    omega (arith, long, tags_long f, tags_long g)

pub nested_long : (w : Word) (n : WellNested w) → length w ≡ 2 * elements n.forest
nested_long w n = ap length (sym n.spells) ∙ tags_long n.forest
