-- How many elements are open, tag by tag, in a well-nested word.
use mathlib.Core.Path.{◌≡◌, ◌∙◌}
use mathlib.Core.List.{List, [], ◌∷◌}
use Prim.Native.Nat.{ℕ, zero, suc, pred, ◌+◌, ◌-◌, ◌<◌, ◌≤◌}
use native.Mathlib.Omega.{arith}
use native.Mathlib.Numerals.{add-one}
use native.Mathlib.Nat.{le_of_suc-le-suc, not-suc-le-zero}
use lib.ListN.{length, take, drop, get_or, length-map, drop_of_length-le}
use lib.Seq.{drop-cons}
use Rattle.words.specs.Tag.{Tag, opening, closing, codes, Word, word_of}
use Rattle.words.specs.Forest.{WellNested, depth}
use Rattle.words.specs.IsWord.{WithinDepth}
use Rattle.words.specs.Opened.{open_after, open_at}
use Rattle.words.specs.Inner.Rest.{Rest}
use Rattle.words.proofs.Bytes.{tag_of_opening, tag_of_closing, tag_at_lem}
use Rattle.words.proofs.RestLaws.{rest_nested, rest_room, rest_closing, rest_end, rest_at}

-- the tag t at a position is the last that counts for the next one
open_next : (w : Word) (i k : ℕ) (t : Tag) → i < length w → get_or w i (opening 0) ≡ t →
    open_after (take (suc i) w) k ≡ open_after (t ∷ []) (open_after (take i w) k)
open_next [] i k t h e = absurd (not-suc-le-zero h)
open_next (x ∷ w) zero k t h e = rw e
open_next (opening c ∷ w) (suc i) k t h e = open_next w i (suc k) t (le_of_suc-le-suc h) e
open_next (closing c ∷ w) (suc i) k t h e = open_next w i (pred k) t (le_of_suc-le-suc h) e

-- an opening tag opens one element, a closing tag closes one
pub open_past : (w : Word) (i : ℕ) (t : Tag) → i < length w → get_or w i (opening 0) ≡ t →
    open_at w (i + 1) ≡ open_after (t ∷ []) (open_at w i)
unfolding open_at
open_past w i t h e = rw add-one (open_next w i 0 t h e)

module _ (w : Word) (n : WellNested w) (i : ℕ) where
  -- the tags left close what is open
  pub rest_left : Rest (depth n.forest) (open_at w i) (drop i w)
  unfolding open_at
  rest_left = rest_at w 0 i (rest_nested n (omega arith))

  -- no more are open than the word is deep
  pub open_within : open_at w i ≤ depth n.forest
  open_within = rest_room rest_left

  -- an element is open at each closing tag
  pub open_some : (c : ℕ) → i < length w → get_or w i (opening 0) ≡ closing c → 0 < open_at w i
  open_some c h e = let r = rest_closing {c = c} (rw (drop-cons w i (opening 0) h, e) at rest_left) in omega (arith, r.1)

  -- no element is open at the end
  pub open_none : length w ≤ i → open_at w i ≡ 0
  open_none h = rest_end (rw (drop_of_length-le w h) at rest_left)

-- how many are open past a tag, by the byte that the code reads
module _ (s : List ℕ) (i : ℕ) (h : i < length s) where
  within_word : i < length (word_of s)
  within_word = rw length-map h

  pub open_byte : get_or s i 0 < codes → open_at (word_of s) (i + 1) ≡ suc (open_at (word_of s) i)
  open_byte b = open_past (word_of s) i (opening (get_or s i 0)) within_word (tag_at_lem s i ∙ tag_of_opening (get_or s i 0) b)

  pub close_byte : WellNested (word_of s) → codes ≤ get_or s i 0 → open_at (word_of s) i ≡ suc (open_at (word_of s) (i + 1))
  close_byte n b =
      let c = get_or s i 0 - codes in
      let e = tag_at_lem s i ∙ tag_of_closing (get_or s i 0) b in
      let some = open_some (word_of s) n i c within_word e in
      let down : open_at (word_of s) (i + 1) ≡ pred (open_at (word_of s) i) = open_past (word_of s) i (closing c) within_word e in
      omega arith

-- In a word within a limit no more are open than it says. A count of what is open stays one, past an opening tag, which finds room for
-- one more, and past a closing tag, which finds one open.
module _ {m : ℕ} {s : List ℕ} (w : WithinDepth m s) where
  pub open_few : (i : ℕ) → open_at (word_of s) i ≤ m
  open_few i = omega (arith, open_within (word_of s) w.word.nested i, w.shallow)

  pub open_end : {i : ℕ} → length s ≤ i → open_at (word_of s) i ≡ 0
  open_end {i} h = open_none (word_of s) w.word.nested i (rw length-map h)

  module _ {count i : ℕ} (h : i < length s) (e : count ≡ open_at (word_of s) i) where
    pub open_up : get_or s i 0 < codes → (count < m) × (count + 1 ≡ open_at (word_of s) (i + 1))
    open_up b = let up = open_byte s i h b in (omega (arith, open_few (i + 1)), omega arith)

    pub open_down : codes ≤ get_or s i 0 → (1 ≤ count) × (count - 1 ≡ open_at (word_of s) (i + 1))
    open_down b = let down = close_byte s i h w.word.nested b in (omega arith, omega arith)
