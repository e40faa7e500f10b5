-- One forest after another, and the last element of a forest that has one.
use mathlib.Core.Path.{◌≡◌, refl, sym, ◌∙◌, ap}
use mathlib.Core.List.{[], ◌∷◌, ◌++◌, append_assoc}
use Prim.Native.Nat.{ℕ}
use Rattle.words.specs.Tag.{opening, closing, Word, IsCode}
use Rattle.words.specs.Forest.{Forest, none, elem, tags, Coded, WellNested}

abbrev pub joined : Forest → Forest → Forest
joined none g = g
joined (elem c f h) g = elem c f (joined h g)

pub joined_none : (f : Forest) → joined f none ≡ f
joined_none none = refl
joined_none (elem c f h) = ap (elem c f) (joined_none h)

pub joined_assoc : (f g h : Forest) → joined (joined f g) h ≡ joined f (joined g h)
joined_assoc none g h = refl
joined_assoc (elem c f k) g h = ap (elem c f) (joined_assoc k g h)

pub tags_joined : (f h : Forest) → tags (joined f h) ≡ tags f ++ tags h
tags_joined none h = refl
tags_joined (elem c f g) h =
    let rest = ap (λ w. tags f ++ closing c ∷ w) (tags_joined g h) ∙ sym (append_assoc (tags f) (closing c ∷ tags g) (tags h)) in
    ap (λ w. opening c ∷ w) rest

coded_joined : (f g : Forest) → Coded f → Coded g → Coded (joined f g)
coded_joined none g cf cg = cg
coded_joined (elem c f h) g (k, cf, ch) cg = (k, cf, coded_joined h g ch cg)

pub nested_none : WellNested []
nested_none = record { forest = none; coded = tt; spells = refl }

-- a well-nested word with another after it
pub nested_append : {x y : Word} → WellNested x → WellNested y → WellNested (x ++ y)
nested_append nx ny =
    record {
      forest = joined nx.forest ny.forest;
      coded = coded_joined nx.forest ny.forest nx.coded ny.coded;
      spells = tags_joined nx.forest ny.forest ∙ rw (nx.spells, ny.spells);
    }

-- a well-nested word with an element after it
pub nested_element : {c : ℕ} {x y : Word} → IsCode c → WellNested x → WellNested y →
    WellNested (x ++ (opening c ∷ (y ++ (closing c ∷ []))))
nested_element {c} k nx ny =
    nested_append nx (record { forest = elem c ny.forest none; coded = (k, ny.coded, tt); spells = rw ny.spells })

-- a forest that ends in an element
pub record LastElement (f : Forest) : Type 0 where
  pub front : Forest
  pub code : ℕ
  pub inside : Forest
  pub joins : joined front (elem code inside none) ≡ f

pub last_of : (c : ℕ) (f g : Forest) → LastElement (elem c f g)
last_of c f none = record { front = none; code = c; inside = f; joins = refl }
last_of c f (elem d h k) =
    let l = last_of d h k in
    record { front = elem c f l.front; code = l.code; inside = l.inside; joins = ap (λ x. elem c f x) l.joins }
