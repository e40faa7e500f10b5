-- The words of n tags that have a decidable property: there is none, or there is a first in byte order. Bytes are tried from 0 on for the
-- first tag, and for each the words that may follow it.
use mathlib.Core.Path.{◌≡◌, refl, sym, ◌∙◌, ap, subst}
use mathlib.Core.Logic.{◌⊎◌, inl, inr, ⊎_elim}
use mathlib.Core.List.{[], ◌∷◌, ◌++◌, append_assoc, append-nil}
use Prim.Native.Nat.{ℕ, zero, suc, ◌+◌, ◌<◌}
use native.Mathlib.Omega.{arith}
use native.Mathlib.Nat.{not-suc-le-zero}
use native.Mathlib.Numerals.{add-one}
use native.Mathlib.Decide.{dec_lt}
use borrow.Author.Count.{below_more}
use lib.ListN.{length}
use Rattle.words.specs.Tag.{Tag, opening, closing, codes, code_of, byte_of, tag_of, tag_bytes, Word, IsCode}
use Rattle.words.specs.Forest.{Forest, none, elem, tags, Coded, WellNested}
use Rattle.words.specs.Order.{Precedes}
use Rattle.words.proofs.Bytes.{tag_of_opening, tag_of_closing, byte_of_tag_of}

-- every tag has a code
abbrev CodedTags : Word → Type 0
CodedTags [] = Unit {0}
CodedTags (t ∷ w) = IsCode (code_of t) × CodedTags w

coded_tags : (f : Forest) → Coded f → (w : Word) → CodedTags w → CodedTags (tags f ++ w)
coded_tags none cf w cw = cw
coded_tags (elem c f g) (h, cf, cg) w cw =
    let inside = coded_tags f cf (closing c ∷ (tags g ++ w)) (h, coded_tags g cg w cw) in
    (h, rw (append_assoc (tags f) (closing c ∷ tags g) w) inside)

-- such a tag is that of its byte
tag_back : (t : Tag) → IsCode (code_of t) → tag_of (byte_of t) ≡ t
tag_back (opening c) h = tag_of_opening c h
tag_back (closing c) h = tag_of_closing (codes + c) (omega arith) ∙ ap closing (omega arith)

byte_small : (t : Tag) → IsCode (code_of t) → byte_of t < tag_bytes
byte_small (opening c) h = omega arith
byte_small (closing c) h = omega arith

-- one of two properties, for each number: the first number with the one, or all numbers below a bound with the other
pub first_number : (X Y : ℕ → Type 0) → ((i : ℕ) → X i ⊎ Y i) → (n : ℕ) →
    ((m : ℕ) × X m × ((k : ℕ) → k < m → Y k)) ⊎ ((k : ℕ) → k < n → Y k)
first_number X Y each zero = inr (λ k h. absurd (not-suc-le-zero h))
first_number X Y each (suc n) =
    ⊎_elim inl
    (λ below. ⊎_elim (λ x. inl (n, x, below)) (λ y. inr (rw add-one at (below_more Y n below y))) (each n))
    (first_number X Y each n)

-- the first word with a property, and that no word has it
abbrev pub FirstOf : (Word → Type 0) → Type 0
FirstOf P = (u : Word) × P u × ((w : Word) → P w → ¬ Precedes w u)

abbrev pub NoneOf : (Word → Type 0) → Type 0
NoneOf P = (w : Word) → ¬ P w

-- a word has n tags, each with a code
abbrev pub Sized : ℕ → Word → Type 0
Sized n w = (length w ≡ n) × CodedTags w

pub sized_nested : (w : Word) (n : ℕ) → length w ≡ n → WellNested w → Sized n w
sized_nested w n l x = (l, subst CodedTags (append-nil (tags x.forest) ∙ x.spells) (coded_tags x.forest x.coded [] tt))

-- the property, of a word that begins with the tag of a byte
abbrev After : (Word → Type 0) → ℕ → Word → Type 0
After P b w = P (tag_of b ∷ w)

module _ (n : ℕ) (P : Word → Type 0) (sized : (w : Word) → P w → Sized (suc n) w) where
  sized_after : (b : ℕ) (w : Word) → After P b w → Sized n w
  sized_after b w p = let (l, c) = sized (tag_of b ∷ w) p in (omega arith, c.1)

  -- what begins with a tag begins with that of its byte
  after_byte : (t : Tag) (w : Word) → P (t ∷ w) → (byte_of t < tag_bytes) × After P (byte_of t) w
  after_byte t w p = let h = (sized (t ∷ w) p).1.0 in (byte_small t h, rw (tag_back t h) p)

  none_at_all : ((b : ℕ) → b < tag_bytes → NoneOf (After P b)) → NoneOf P
  none_at_all no_byte [] p = omega (arith, (sized [] p).0)
  none_at_all no_byte (t ∷ w) p = let (h, x) = after_byte t w p in no_byte (byte_of t) h w x

  -- what comes before a word begins with an earlier byte, or with the same
  none_before : (b : ℕ) (u : Word) → ((w : Word) → After P b w → ¬ Precedes w u) → ((d : ℕ) → d < b → NoneOf (After P d)) →
      (w : Word) → P w → ¬ Precedes w (tag_of b ∷ u)
  none_before b u first earlier [] p k = omega (arith, (sized [] p).0)
  none_before b u first earlier (t ∷ w) p k =
      let back = byte_of_tag_of b in
      let (_, x) = after_byte t w p in
      ⊎_elim (λ less. earlier (byte_of t) (omega arith) w x) (λ (e, r). first w (rw (e ∙ back) at x) r) k

no_tags : (w : Word) → length w ≡ 0 → w ≡ []
no_tags [] l = refl
no_tags (t ∷ w) l = absurd (omega arith)

pub first_word : (n : ℕ) (P : Word → Type 0) → ((w : Word) → Dec (P w)) → ((w : Word) → P w → Sized n w) → FirstOf P ⊎ NoneOf P
first_word zero P P? sized =
    elim (P? []) [
      | yes p ↦ inl ([], p, λ w x k. k)
      | no m ↦ inr (λ w x. m (rw (no_tags w (sized w x).0) at x))
    ]
first_word (suc n) P P? sized =
    ⊎_elim (λ (b, (u, p, first), earlier). inl (tag_of b ∷ u, p, none_before n P sized b u first earlier))
    (λ no_byte. inr (none_at_all n P sized no_byte))
    (first_number (λ b. FirstOf (After P b)) (λ b. NoneOf (After P b))
    (λ b. first_word n (After P b) (λ w. P? (tag_of b ∷ w)) (sized_after n P sized b)) tag_bytes)

-- of two such words that differ one comes before the other
pub precedes_either : (n : ℕ) (u v : Word) → Sized n u → Sized n v → (u ≡ v) ⊎ (Precedes u v ⊎ Precedes v u)
precedes_either n [] [] x y = inl refl
precedes_either n [] (t ∷ v) (l, _) (k, _) = absurd (omega arith)
precedes_either n (s ∷ u) [] (l, _) (k, _) = absurd (omega arith)
precedes_either zero (s ∷ u) (t ∷ v) (l, _) (k, _) = absurd (omega arith)
precedes_either (suc n) (s ∷ u) (t ∷ v) (l, (hs, cu)) (k, (ht, cv)) =
    ⊎_elim (λ less. inr (inl (inl less)))
    (⊎_elim
    (λ e. ⊎_elim (λ same. inl (ap (λ x. x ∷ u) (sym (tag_back s hs) ∙ ap tag_of e ∙ tag_back t ht) ∙ ap (λ w. t ∷ w) same))
    (⊎_elim (λ b. inr (inl (inr (e, b)))) (λ b. inr (inr (inr (sym e, b)))))
    (precedes_either n u v (omega arith, cu) (omega arith, cv)))
    (λ less. inr (inr (inl less))))
    (compare (byte_of s) (byte_of t))
  where
    compare : (a b : ℕ) → (a < b) ⊎ ((a ≡ b) ⊎ (b < a))
    compare a b = elim (dec_lt a b) [ yes h ↦ inl h | no m ↦ elim (dec_lt b a) [ yes h ↦ inr (inr h) | no k ↦ inr (inl (omega arith)) ] ]
