-- The end of a word: its last tag tells whether the forest that ends there is empty, and the element that ends there is taken apart. And
-- the end of the tags before an index of a slice.
use mathlib.Core.Path.{◌≡◌, refl, sym, ◌∙◌, ap}
use mathlib.Core.Logic.{⊎_elim}
use mathlib.Core.List.{List, [], ◌∷◌, ◌++◌, map-append, append_assoc, append-nil}
use Prim.Native.Nat.{ℕ, suc, ◌-◌, ◌<◌, ◌≤◌}
use native.Mathlib.Omega.{arith}
use lib.ListN.{length, take, get_or, length-append, length-map}
use lib.Seq.{length-take-le, take-suc, take-take, take-append_seam, take_at, get_or-append_seam}
use Rattle.words.specs.Tag.{Tag, opening, closing, tag_of, codes, Word, word_of}
use Rattle.words.specs.Forest.{Forest, none, elem, tags}
use Rattle.words.specs.Inner.Unclosed.{Unclosed}
use Rattle.words.proofs.Bytes.{tag_of_opening, tag_of_closing, word_take}
use Rattle.words.proofs.RestLaws.{other_way}
use Rattle.words.proofs.ForestJoined.{tags_joined, LastElement, last_of}

-- two words with a last tag are equal only with the same front and the same tag
snoc_inj : (u v : Word) (s t : Tag) → u ++ (s ∷ []) ≡ v ++ (t ∷ []) → (u ≡ v) × (s ≡ t)
snoc_inj u v s t e =
    let n = length u in
    let long : n ≡ length v = omega (arith, simp length-append at (ap length e)) in
    let last : get_or (v ++ (t ∷ [])) n s ≡ t = ap (λ i. get_or (v ++ (t ∷ [])) i s) long ∙ get_or-append_seam v t [] s in (
      sym (take-append_seam u (s ∷ [])) ∙ ap (λ w. take n w) e ∙ take_at v (t ∷ []) n (sym long),
      sym (get_or-append_seam u s [] s) ∙ ap (λ w. get_or w n s) e ∙ last,
    )

-- after any word, an element ends in its closing tag, and what stands before that ends in its inside
pub element_ends : (u : Word) (c : ℕ) (f : Forest) → u ++ tags (elem c f none) ≡ ((u ++ (opening c ∷ [])) ++ tags f) ++ (closing c ∷ [])
element_ends u c f = simp append_assoc

-- a forest with a last element is what stands before it, and the element
pub last_ends : (u : Word) {f : Forest} (l : LastElement f) → u ++ tags f ≡ (u ++ tags l.front) ++ tags (elem l.code l.inside none)
last_ends u {f} l =
    ap (λ w. u ++ w) (ap tags (sym l.joins) ∙ tags_joined l.front (elem l.code l.inside none)) ∙
    sym (append_assoc u (tags l.front) (tags (elem l.code l.inside none)))

module _ (v u : Word) (x : ℕ) where
  -- an element's closing tag has its code
  pub taken_apart : (c : ℕ) (f : Forest) → v ++ (closing x ∷ []) ≡ u ++ tags (elem c f none)
      → (v ≡ (u ++ (opening c ∷ [])) ++ tags f) × (x ≡ c)
  taken_apart c f e =
      let k = snoc_inj v ((u ++ (opening c ∷ [])) ++ tags f) (closing x) (closing c) (e ∙ element_ends u c f) in
      let same = k.1 in
      (k.0, cc)

  -- after an opening tag there is only the empty forest
  pub nothing_ends : (f : Forest) → v ++ (opening x ∷ []) ≡ u ++ tags f → f ≡ none
  nothing_ends none e = refl
  nothing_ends (elem c f g) e =
      let l = last_of c f g in
      let w = u ++ tags l.front in
      let ends = e ∙ last_ends u l ∙ element_ends w l.code l.inside in
      let same = (snoc_inj v ((w ++ (opening l.code ∷ [])) ++ tags l.inside) (opening x) (closing l.code) ends).1 in
      absurd (other_way (ap (λ t. t ∷ []) same))

  -- the longest forest that ends in a closing tag has a last element
  pub something_ends : (f : Forest) → Unclosed u → v ++ (closing x ∷ []) ≡ u ++ tags f → LastElement f
  something_ends (elem c f g) o e = last_of c f g
  something_ends none o e =
      let ends = e ∙ append-nil u in
      absurd (⊎_elim
      (λ (h : u ≡ []). let z = simp length-append at (ap length (ends ∙ h)) in omega arith)
      (λ h. other_way (ap (λ t. t ∷ []) (sym (snoc_inj v h.0 (closing x) (opening h.1) (ends ∙ h.2)).1)))
      o)

-- the longest forest that ends where the word begins is empty
pub none_at_start : (u : Word) (f : Forest) → [] ≡ u ++ tags f → f ≡ none
none_at_start u none e = refl
none_at_start u (elem c f g) e = let z = simp length-append at (ap length e) in absurd (omega arith)

module _ (bytes : List ℕ) where
  -- the tags before `end`
  abbrev pub up_to : ℕ → Word
  up_to end = word_of (take end bytes)

  pub upto_long : (end : ℕ) → end ≤ length bytes → length (up_to end) ≡ end
  upto_long end h = length-map (take end bytes) tag_of ∙ length-take-le end bytes h

  upto_suc : (i : ℕ) → i < length bytes → up_to (suc i) ≡ up_to i ++ (tag_of (get_or bytes i 0) ∷ [])
  upto_suc i h = ap (λ l. word_of l) (take-suc bytes i 0 h) ∙ map-append tag_of (take i bytes) (get_or bytes i 0 ∷ [])

  module _ (end i : ℕ) (at : end ≡ suc i) (h : end ≤ length bytes) where
    pub ends_opening : get_or bytes i 0 < codes → up_to end ≡ up_to i ++ (opening (get_or bytes i 0) ∷ [])
    ends_opening l = ap up_to at ∙ upto_suc i (omega arith) ∙ ap (λ t. up_to i ++ (t ∷ [])) (tag_of_opening (get_or bytes i 0) l)

    pub ends_closing : codes ≤ get_or bytes i 0 → up_to end ≡ up_to i ++ (closing (get_or bytes i 0 - codes) ∷ [])
    ends_closing l = ap up_to at ∙ upto_suc i (omega arith) ∙ ap (λ t. up_to i ++ (t ∷ [])) (tag_of_closing (get_or bytes i 0) l)

  -- the part as far as the end of a word that it begins with
  pub upto_cut : (start end : ℕ) (w v : Word) → start ≤ end → up_to end ≡ w ++ v → start ≡ length w → up_to start ≡ w
  upto_cut start end w v h e l =
      let cut = ap (λ b. word_of b) (sym (take-take start end bytes h)) ∙ word_take start (take end bytes) in
      cut ∙ ap (λ b. take start b) e ∙ take_at w v start (sym l)
