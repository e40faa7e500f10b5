-- The vocabulary's marks: only codes can be fetched, and exactly those from 12 to 15.
use mathlib.Core.Path.{◌≡◌, refl, sym, ◌∙◌, ap}
use mathlib.Core.Bool.{Bool, true, false, ◌&&◌, beq, true≢false}
use Prim.Native.Nat.{ℕ, ◌≤◌}
use native.Mathlib.Omega.{arith}
use native.Mathlib.Decide.{dec_lt}
use borrow.Author.Tests.{le-leb, lt-leb}
use lib.Dec.{leb}
use lib.ListN.{get_or-eq_default}
use Rattle.words.specs.Tag.{codes, IsCode}
use Rattle.words.specs.Vocabulary.{Entry, vocabulary, unknown, fetchable}
use Rattle.words.proofs.Truth.{beq_same}
use Rattle.words.proofs.Table.{every_at}

-- the vocabulary has an entry for each code, and nothing beyond can be fetched
pub unmarked : (c : ℕ) → codes ≤ c → fetchable c ≡ false
unfolding vocabulary fetchable
unmarked c h = ap (λ (e : Entry). e.mark) (get_or-eq_default vocabulary unknown h)

pub fetchable_code : (c : ℕ) → fetchable c ≡ true → IsCode c
fetchable_code c t = elim (dec_lt c codes) [ yes h ↦ h | no h ↦ absurd (true≢false (sym t ∙ unmarked c (omega arith))) ]

abbrev pub between : ℕ → Bool
between c = leb 12 c && leb c 15

agrees : ℕ → Entry → Bool
agrees c e = beq e.mark (between c)

above : (c : ℕ) → codes ≤ c → between c ≡ false
above c h = rw (le-leb 12 c (omega arith), lt-leb c 15 (omega arith)) refl

agrees_below : (c : ℕ) → IsCode c → fetchable c ≡ between c
unfolding vocabulary fetchable agrees
agrees_below c h = beq_same (fetchable c) (between c) (every_at agrees vocabulary refl c unknown h)

pub fetchable_rule : (c : ℕ) → fetchable c ≡ between c
fetchable_rule c =
    elim (dec_lt c codes) [
      | yes h ↦ agrees_below c h
      | no h ↦ let l : codes ≤ c = omega arith in unmarked c l ∙ sym (above c l)
    ]
