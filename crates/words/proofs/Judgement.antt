-- What each answer of the judgement says of the bytes, and how to arrive at one.
use mathlib.Core.Path.{◌≡◌, refl, sym, ◌∙◌, subst}
use mathlib.Core.Bool.{Bool, false, decide}
use mathlib.Core.Logic.{ite, if_pos, if_neg}
use mathlib.Core.List.{List}
use Prim.Native.Nat.{ℕ, ◌<◌, ◌≤◌}
use native.Mathlib.Omega.{arith}
use native.Mathlib.Decide.{dec_le, dec_lt}
use borrow.Author.Tests.{le-leb, lt-leb}
use lib.Dec.{leb}
use lib.ListN.{length}
use Rattle.std.specs.Prelude.{Result, Ok, Err}
use Rattle.words.specs.Tag.{Word, word_of, TagBytes}
use Rattle.words.specs.Forest.{WellNested, depth}
use Rattle.words.specs.IsWord.{most_tags, WithinDepth, Deeper}
use Rattle.words.specs.Decide.Words.{tag_bytes?, well_nested?, same_depth, within_depth?}
use Rattle.words.specs.Inner.Nesting.{nesting_of, judgement}
use Rattle.words.specs.declared.nesting.NoWord.{NoWord}
use Rattle.words.specs.declared.nesting.NoWord.TheVariants.{TooLong, NoTag, IllNested}
use Rattle.words.proofs.Decided.{decided_yes, decided_no}

-- what is said of a word by its nesting
abbrev pub MeansOfWord : Word → Result ℕ NoWord → Type 0
MeansOfWord w (Err TooLong) = ⊥
MeansOfWord w (Err NoTag) = ⊥
MeansOfWord w (Err IllNested) = ¬ WellNested w
MeansOfWord w (Ok d) = (n : WellNested w) × (depth n.forest ≡ d)

-- what is said of bytes by their judgement: the four answers exclude each other
abbrev pub Means : List ℕ → Result ℕ NoWord → Type 0
Means s (Err TooLong) = most_tags < length s
Means s (Err NoTag) = (length s ≤ most_tags) × ¬ TagBytes s
Means s (Err IllNested) = (length s ≤ most_tags) × TagBytes s × ¬ WellNested (word_of s)
Means s (Ok d) = (length s ≤ most_tags) × TagBytes s × ((n : WellNested (word_of s)) × (depth n.forest ≡ d))

pub means_word : (w : Word) → MeansOfWord w (nesting_of w)
unfolding nesting_of
means_word w =
    elim (well_nested? w) as (λ x. MeansOfWord w (elim x [ yes n ↦ Ok (depth n.forest) | no _ ↦ Err IllNested ])) [
      | yes n ↦ (n, refl)
      | no n ↦ n
    ]

module _ (s : List ℕ) where
  pub judged_long : most_tags < length s → judgement s ≡ Err TooLong
  unfolding judgement
  judged_long h = if_pos (dec_lt most_tags (length s)) h (Err TooLong) (ite (tag_bytes? s) (nesting_of (word_of s)) (Err NoTag))

  judged_short : length s ≤ most_tags → judgement s ≡ ite (tag_bytes? s) (nesting_of (word_of s)) (Err NoTag)
  unfolding judgement
  judged_short h =
      if_neg (dec_lt most_tags (length s)) (omega arith) (Err TooLong) (ite (tag_bytes? s) (nesting_of (word_of s)) (Err NoTag))

  pub judged_no_tag : length s ≤ most_tags → ¬ TagBytes s → judgement s ≡ Err NoTag
  judged_no_tag h n = judged_short h ∙ if_neg (tag_bytes? s) n (nesting_of (word_of s)) (Err NoTag)

  pub judged_word : length s ≤ most_tags → TagBytes s → judgement s ≡ nesting_of (word_of s)
  judged_word h t = judged_short h ∙ if_pos (tag_bytes? s) t (nesting_of (word_of s)) (Err NoTag)

  nested_means : length s ≤ most_tags → TagBytes s → (a : Result ℕ NoWord) → MeansOfWord (word_of s) a → Means s a
  nested_means h t (Err TooLong) m = absurd m
  nested_means h t (Err NoTag) m = absurd m
  nested_means h t (Err IllNested) m = (h, t, m)
  nested_means h t (Ok d) m = (h, t, m)

  -- every judgement means what it says
  pub means : Means s (judgement s)
  means =
      elim (dec_lt most_tags (length s)) [
        | yes h ↦ rw (judged_long h) h
        | no l ↦
            let h : length s ≤ most_tags = omega arith in
            elim (tag_bytes? s) [
              | yes t ↦ rw (judged_word h t) (nested_means h t (nesting_of (word_of s)) (means_word (word_of s)))
              | no n ↦ rw (judged_no_tag h n) (h, n)
            ]
      ]

-- within a limit, and not beyond it
pub not_deeper : {m : ℕ} {s : List ℕ} → WithinDepth m s → ¬ Deeper m s
not_deeper {s = s} w d = omega (arith, same_depth (word_of s) w.word.nested d.nested, w.shallow, d.deep)

-- only a depth can be within a limit
abbrev pub shallow : ℕ → Result ℕ NoWord → Bool
shallow m (Err _) = false
shallow m (Ok d) = leb d m

module _ (m : ℕ) (s : List ℕ) where
  meant_within : (a : Result ℕ NoWord) → Means s a → shallow m a ≡ decide (within_depth? m s)
  meant_within (Err TooLong) l = sym (decided_no (within_depth? m s) (λ w. let short = w.word.short in omega arith))
  meant_within (Err NoTag) (_, n) = sym (decided_no (within_depth? m s) (λ w. n w.word.bytes))
  meant_within (Err IllNested) (_, _, n) = sym (decided_no (within_depth? m s) (λ w. n w.word.nested))
  meant_within (Ok d) (short, bytes, (nested, e)) =
      elim (dec_le d m) [
        | yes l ↦
            let within : WithinDepth m s = record { word = record { short = short; bytes = bytes; nested = nested }; shallow = rw e l } in
            rw (le-leb d m l) (sym (decided_yes (within_depth? m s) within))
        | no n ↦
            let deep : ¬ WithinDepth m s = λ w. let l = w.shallow in omega (arith, same_depth (word_of s) nested w.word.nested) in
            rw (lt-leb d m (omega arith)) (sym (decided_no (within_depth? m s) deep))
      ]

  -- the depth judged is within the limit exactly when the bytes are
  pub judged_within : (a : Result ℕ NoWord) → judgement s ≡ a → shallow m a ≡ decide (within_depth? m s)
  judged_within a e = meant_within a (subst (λ x. Means s x) e (means s))
