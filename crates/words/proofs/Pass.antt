-- The pass over a word, tag by tag, as the scan makes it.
use mathlib.Core.Path.{◌≡◌, refl, sym, ◌∙◌, ap}
use mathlib.Core.List.{List, [], ◌∷◌}
use Prim.Native.Nat.{ℕ, suc, max, ◌+◌, ◌-◌, ◌<◌, ◌≤◌}
use native.Mathlib.Omega.{arith}
use borrow.Author.Tests.{lt-ltb, eq-eqb, ne_eqb}
use lib.ListN.{length, get_or, drop}
use Rattle.std.specs.Prelude.{Ok, Err}
use Rattle.words.specs.Tag.{codes, Word, word_of}
use Rattle.words.specs.Forest.{depth}
use Rattle.words.specs.Decide.Words.{ill, nested, pass, ill≢nested, nested_inj, sound, pass_tags, well_nested?}
use Rattle.words.specs.Inner.Nesting.{nesting_of}
use Rattle.words.specs.declared.nesting.NoWord.TheVariants.{IllNested}
use Rattle.words.proofs.Bytes.{from_opening, from_closing, word_of_end}

-- what the pass finds is the word's nesting
nesting_ill : (w : Word) → pass w [] 0 ≡ ill → nesting_of w ≡ Err IllNested
unfolding nesting_of
nesting_ill w e =
    elim (well_nested? w) as (λ d. elim d [ yes n ↦ Ok (depth n.forest) | no _ ↦ Err IllNested ] ≡ Err IllNested) [
      | yes n ↦ absurd (ill≢nested (sym e ∙ pass_tags w n))
      | no _ ↦ refl
    ]

nesting_depth : (w : Word) (d : ℕ) → pass w [] 0 ≡ nested d → nesting_of w ≡ Ok d
unfolding nesting_of
nesting_depth w d e =
    elim (well_nested? w) as (λ x. elim x [ yes n ↦ Ok (depth n.forest) | no _ ↦ Err IllNested ] ≡ Ok d) [
      | yes n ↦ ap Ok (nested_inj (sym (pass_tags w n) ∙ e))
      | no n ↦ absurd (n (sound w [] 0 d e))
    ]

-- What the scan knows before tag i: the rest of the pass, from the open elements and the most so far, is the whole pass.
pub record Scanned (s st : List ℕ) (most i : ℕ) : Type 0 where
  pub within : i ≤ length s
  pub passed : length st ≤ i
  pub least : length st ≤ most
  pub same : pass (drop i (word_of s)) st most ≡ pass (word_of s) [] 0

left_open : (st : List ℕ) (m : ℕ) → (length st ≡ 0 → ⊥) → pass [] st m ≡ ill
left_open [] m n = absurd (n refl)
left_open (c ∷ st) m n = refl

none_open : (st : List ℕ) → length st ≡ 0 → st ≡ []
none_open [] e = refl
none_open (c ∷ st) e = absurd (omega arith)

module _ {s st : List ℕ} {most i : ℕ} (k : Scanned s st most i) where
  found_ill : {t : List ℕ} → st ≡ t → pass (drop i (word_of s)) t most ≡ ill → nesting_of (word_of s) ≡ Err IllNested
  found_ill e p = nesting_ill (word_of s) (sym (rw e at k.same) ∙ p)

  module _ (h : i < length s) where
    abbrev b : ℕ
    b = get_or s i 0

    -- an opening tag is put on the stack
    pub scanned_opening : b < codes → {n : ℕ} → n ≡ max most (suc (length st)) → Scanned s (b ∷ st) n (i + 1)
    scanned_opening hb e =
        record {
          within = omega arith;
          passed = omega (arith, k.passed);
          least = omega arith;
          same = rw e (rw (from_opening s i h hb, lt-ltb b codes hb) at k.same);
        }

    module _ (hb : codes ≤ b) where
      -- a closing tag of the newest code takes it off
      pub scanned_closing : {x : ℕ} {t : List ℕ} → st ≡ x ∷ t → x ≡ b - codes → Scanned s t most (i + 1)
      scanned_closing {x} e same_code =
          record {
            within = omega arith;
            passed = omega (arith, k.passed, ap length e);
            least = omega (arith, k.least, ap length e);
            same = rw (e, from_closing s i h hb, eq-eqb (b - codes) x (sym same_code)) at k.same;
          }

      -- a closing tag where nothing is open: not well nested
      pub unopened : st ≡ [] → nesting_of (word_of s) ≡ Err IllNested
      unopened e = found_ill e (rw (from_closing s i h hb) refl)

      -- a closing tag of another code than the newest: not well nested
      pub crossed : {x : ℕ} {t : List ℕ} → st ≡ x ∷ t → (x ≡ b - codes → ⊥) → nesting_of (word_of s) ≡ Err IllNested
      crossed {x} e n = found_ill e (rw (from_closing s i h hb, ne_eqb (b - codes) x (λ y. n (sym y))) refl)

  module _ (h : length s ≤ i) where
    -- at the end of the word with nothing open: it is well nested
    pub shut : length st ≡ 0 → nesting_of (word_of s) ≡ Ok most
    shut e = nesting_depth (word_of s) most (sym (rw (none_open st e, word_of_end s i h) at k.same))

    -- at the end of the word with something open
    pub unshut : (length st ≡ 0 → ⊥) → nesting_of (word_of s) ≡ Err IllNested
    unshut n = found_ill refl (rw (word_of_end s i h) (left_open st most n))
