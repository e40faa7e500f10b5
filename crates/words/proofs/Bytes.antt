-- Laws of tags as bytes, and of the word that bytes hold.
use mathlib.Core.Path.{◌≡◌, refl, ap}
use mathlib.Core.List.{List, [], ◌∷◌}
use Prim.Native.Nat.{ℕ, zero, suc, ◌+◌, ◌-◌, ◌<◌, ◌≤◌}
use native.Mathlib.Omega.{arith}
use native.Mathlib.Numerals.{add-one}
use native.Mathlib.Nat.{not-suc-le-zero, le_of_suc-le-suc}
use native.Mathlib.Decide.{dec_lt}
use borrow.Author.Tests.{lt-ltb, le-ltb}
use lib.ListN.{length, get_or, take, drop, length-map, drop_of_length-le}
use Rattle.words.specs.Tag.{Tag, opening, closing, byte_of, tag_of, codes, word_of}

pub tag_of_opening : (b : ℕ) → b < codes → tag_of b ≡ opening b
unfolding tag_of
tag_of_opening b h = rw (lt-ltb b codes h) refl

pub tag_of_closing : (b : ℕ) → codes ≤ b → tag_of b ≡ closing (b - codes)
unfolding tag_of
tag_of_closing b h = rw (le-ltb b codes h) refl

-- a tag's byte and a byte's tag are each other's
pub byte_of_tag_of : (b : ℕ) → byte_of (tag_of b) ≡ b
byte_of_tag_of b =
    elim (dec_lt b codes) [
      | yes h ↦ rw (tag_of_opening b h) refl
      | no h ↦ let l : codes ≤ b = omega arith in rw (tag_of_closing b l) (omega arith)
    ]

pub word_of_drop : (s : List ℕ) (i : ℕ) → i < length s → drop i (word_of s) ≡ tag_of (get_or s i 0) ∷ drop (suc i) (word_of s)
word_of_drop [] i h = absurd (not-suc-le-zero h)
word_of_drop (b ∷ s) zero h = refl
word_of_drop (b ∷ s) (suc i) h = word_of_drop s i (le_of_suc-le-suc h)

pub word_of_end : (s : List ℕ) (i : ℕ) → length s ≤ i → drop i (word_of s) ≡ []
word_of_end s i h = drop_of_length-le (word_of s) {i = i} (rw length-map h)

-- the word of the first i bytes, and of those from i on
pub word_take : (i : ℕ) (s : List ℕ) → word_of (take i s) ≡ take i (word_of s)
word_take zero s = refl
word_take (suc i) [] = refl
word_take (suc i) (b ∷ s) = ap (λ w. tag_of b ∷ w) (word_take i s)

pub word_drop : (i : ℕ) (s : List ℕ) → word_of (drop i s) ≡ drop i (word_of s)
word_drop zero s = refl
word_drop (suc i) [] = refl
word_drop (suc i) (b ∷ s) = word_drop i s

-- the tag at an index is the one that its byte spells
pub tag_at_lem : (s : List ℕ) (i : ℕ) → get_or (word_of s) i (opening 0) ≡ tag_of (get_or s i 0)
unfolding tag_of
tag_at_lem [] i = refl
tag_at_lem (b ∷ s) zero = refl
tag_at_lem (b ∷ s) (suc i) = tag_at_lem s i

-- the tags from an index on, where the code reads the tag's byte
module _ (s : List ℕ) (i : ℕ) (h : i < length s) where
  from_tag : (t : Tag) → tag_of (get_or s i 0) ≡ t → drop i (word_of s) ≡ t ∷ drop (i + 1) (word_of s)
  from_tag t e = rw (add-one, ← e) (word_of_drop s i h)

  pub from_opening : get_or s i 0 < codes → drop i (word_of s) ≡ opening (get_or s i 0) ∷ drop (i + 1) (word_of s)
  from_opening l = from_tag (opening (get_or s i 0)) (tag_of_opening (get_or s i 0) l)

  pub from_closing : codes ≤ get_or s i 0 → drop i (word_of s) ≡ closing (get_or s i 0 - codes) ∷ drop (i + 1) (word_of s)
  from_closing l = from_tag (closing (get_or s i 0 - codes)) (tag_of_closing (get_or s i 0) l)
