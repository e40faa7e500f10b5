-- Around the focus: the elements that are open before it are closed from it on. So a Call finds the element that Romeo replaces, and the
-- word stays well nested.
use mathlib.Core.Path.{◌≡◌, refl, sym, ◌∙◌, ap, subst}
use mathlib.Core.List.{List, [], ◌∷◌, ◌++◌, append_assoc, append-nil}
use Prim.Native.Nat.{ℕ}
use Rattle.words.specs.Tag.{Tag, opening, closing, Word, IsCode}
use Rattle.words.specs.Forest.{Forest, none, elem, tags, Coded, WellNested}
use Rattle.words.proofs.ForestJoined.{nested_none, nested_element}

-- the codes of the elements open in a word, newest first: each has a part before its opening tag and a well-nested one after it
pub data Opened : List ℕ → Word → Type 0 where
  outside : {u : Word} → WellNested u → Opened [] u
  inside : {c : ℕ} {cs : List ℕ} {u x y : Word} → u ≡ x ++ (opening c ∷ y) → IsCode c → Opened cs x → WellNested y → Opened (c ∷ cs) u

-- a word closes these elements, newest first, and no other that it does not open
pub data Shuts : List ℕ → Word → Type 0 where
  all_shut : Shuts [] []
  opens : {c : ℕ} {cs : List ℕ} {w : Word} → IsCode c → Shuts (c ∷ cs) w → Shuts cs (opening c ∷ w)
  shuts : {c : ℕ} {cs : List ℕ} {w : Word} → Shuts cs w → Shuts (c ∷ cs) (closing c ∷ w)

pub record Around (u v : Word) : Type 0 where
  pub codes : List ℕ
  pub opened : Opened codes u
  pub shut : Shuts codes v

-- the word of an element, by what is within it
abbrev enclosed : ℕ → Word → Word
enclosed c y = opening c ∷ (y ++ (closing c ∷ []))

element_spells : (c : ℕ) (u x y : Word) → u ≡ x ++ (opening c ∷ y) → u ++ (closing c ∷ []) ≡ x ++ enclosed c y
element_spells c u x y e = rw e (append_assoc x (opening c ∷ y) (closing c ∷ []))

-- an element that is closed joins the well-nested word before it
shut_element : {c : ℕ} {cs : List ℕ} {u : Word} → Opened (c ∷ cs) u → Opened cs (u ++ (closing c ∷ []))
shut_element {c} {u = u} (inside {x = x} {y = y} e k (outside nx) ny) =
    outside (subst (λ w. WellNested w) (sym (element_spells c u x y e)) (nested_element k nx ny))
shut_element {c} {u = u} (inside {x = x} {y = y} e k (inside {c = d} {x = v} {y = z} i l o nz) ny) =
    inside (element_spells c u x y e ∙ ap (λ w. w ++ enclosed c y) i ∙ append_assoc v (opening d ∷ z) (enclosed c y)) l o
    (nested_element k nz ny)

shuts_tags : (f : Forest) {cs : List ℕ} (w : Word) → Coded f → Shuts cs w → Shuts cs (tags f ++ w)
shuts_tags none w k h = h
shuts_tags (elem c f g) {cs} w (k, cf, cg) h =
    opens k (subst (λ u. Shuts (c ∷ cs) u) (sym (append_assoc (tags f) (closing c ∷ tags g) w))
    (shuts_tags f (closing c ∷ (tags g ++ w)) cf (shuts (shuts_tags g w cg h))))

shuts_nested : (y w : Word) → WellNested y → {cs : List ℕ} → Shuts cs w → Shuts cs (y ++ w)
shuts_nested y w n {cs} h = subst (λ u. Shuts cs (u ++ w)) n.spells (shuts_tags n.forest w n.coded h)

pub around_start : (w : Word) → WellNested w → Around [] w
around_start w n =
    record { codes = []; opened = outside nested_none; shut = subst (λ u. Shuts [] u) (append-nil w) (shuts_nested w [] n all_shut) }

pub around_end : (u : Word) → Around u [] → WellNested u
around_end u a = go a.opened a.shut
  where
    go : {cs : List ℕ} → Opened cs u → Shuts cs [] → WellNested u
    go (outside n) all_shut = n
    go (inside _ _ _ _) s = elim s [ ]

pub around_read : (t : Tag) (u v : Word) → Around u (t ∷ v) → Around (u ++ (t ∷ [])) v
around_read t u v a = go t a.opened a.shut
  where
    go : (s : Tag) {cs : List ℕ} → Opened cs u → Shuts cs (s ∷ v) → Around (u ++ (s ∷ [])) v
    go (opening c) {cs} o (opens k s) = record { codes = c ∷ cs; opened = inside refl k o nested_none; shut = s }
    go (closing c) o (shuts {cs = cs} s) = record { codes = cs; opened = shut_element o; shut = s }

-- the element that a Call at its closing tag is about, and what a reply in its place leaves
pub record Element (u : Word) (c : ℕ) (z : Word) : Type 0 where
  pub before : Word
  pub within : Word
  pub splits : u ≡ before ++ (opening c ∷ within)
  pub nested : WellNested within
  pub replaced : (y : Word) → WellNested y → Around before (y ++ z)

pub around_element : (u : Word) (c : ℕ) (z : Word) → Around u (closing c ∷ z) → Element u c z
around_element u c z a = go a.opened a.shut
  where
    go : {cs : List ℕ} → Opened cs u → Shuts cs (closing c ∷ z) → Element u c z
    go (outside _) s = elim s [ ]
    go (inside {cs = cs} {x = x} {y = y} e k o n) (shuts s) =
        record {
          before = x;
          within = y;
          splits = e;
          nested = n;
          replaced = λ v m. record { codes = cs; opened = o; shut = shuts_nested v z m s };
        }
