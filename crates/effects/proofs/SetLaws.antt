-- The sets that go with the numbers: one set as a loop collects it, and the list of them all.
use mathlib.Core.Path.{◌≡◌, refl, sym, ◌∙◌, ap}
use mathlib.Core.Bool.{Bool, true, false}
use mathlib.Core.List.{List}
use Prim.Native.Nat.{ℕ, zero, suc, ◌+◌, ◌*◌, ◌/◌, ◌%◌, ◌^◌, ◌<◌}
use native.Mathlib.Omega.{arith}
use native.Mathlib.Numerals.{add-one}
use lib.Bits.{bit_or}
use lib.ListN.{length, get_or}
use lib.Seq.{ext_get_or}
use Rattle.words.specs.Lists.{tabulated}
use Rattle.words.proofs.ListLaws.{tabulated_at}
use Rattle.automata.specs.TargetBody.{most_states}
use Rattle.effects.specs.Effects.{number_index, shortest_at}
use Rattle.effects.specs.Inner.Sets.{reached, mask_below, effect_at, set_count, sets_of}
use Rattle.effects.specs.Inner.Numbers.{numbers_of}
use Rattle.effects.specs.declared.Effects.{Effects}
use Rattle.effects.proofs.ToldLaws.{told_reached, told_unreached}

-- the mask of the numbers below n that pass, with the next that passes and with one that does not
mask_more : (p : ℕ → Bool) (n m : ℕ) → m ≡ mask_below p n → p n ≡ true → bit_or m (2 ^ n) ≡ mask_below p (n + 1)
unfolding mask_below
mask_more p n m e h = rw (add-one n, h, e) refl

mask_skip : (p : ℕ → Bool) (n m : ℕ) → m ≡ mask_below p n → p n ≡ false → m ≡ mask_below p (n + 1)
unfolding mask_below
mask_skip p n m e h = rw (add-one n, h) e

-- the loop over the numbers of one set
module _ (numbers : List ℕ) (i : ℕ) where
  abbrev passes : ℕ → Bool
  passes s = reached (shortest_at (numbers_of numbers) (i / most_states) (i % most_states) s)

  abbrev pub set_below : ℕ → ℕ
  set_below n = mask_below passes n

  place : (s : ℕ) → number_index (i / most_states) (i % most_states) s ≡ most_states * i + s
  place s = omega arith

  pub set_none : 0 ≡ set_below 0
  unfolding mask_below
  set_none = refl

  pub set_more : (s m : ℕ) → m ≡ set_below s → ¬ (get_or numbers (most_states * i + s) 0 ≡ 0) → bit_or m (2 ^ s) ≡ set_below (s + 1)
  unfolding shortest_at
  set_more s m e h = mask_more passes s m e (rw (place s) (told_reached _ h))

  pub set_skip : (s m : ℕ) → m ≡ set_below s → get_or numbers (most_states * i + s) 0 ≡ 0 → m ≡ set_below (s + 1)
  unfolding shortest_at
  set_skip s m e h = mask_skip passes s m e (rw (place s) (told_unreached _ h))

  pub set_all : (m : ℕ) → m ≡ set_below most_states → m ≡ effect_at (numbers_of numbers) (i / most_states) (i % most_states)
  unfolding effect_at
  set_all m e = e

-- the first n sets are in the list
abbrev pub SetsBelow : Effects → ℕ → List ℕ → Type 0
SetsBelow E n sets = (i : ℕ) → i < n → get_or sets i 0 ≡ effect_at E (i / most_states) (i % most_states)

pub tabulated_long : (f : ℕ → ℕ) (i n : ℕ) → length (tabulated f i n) ≡ n
tabulated_long f i zero = refl
tabulated_long f i (suc n) = ap suc (tabulated_long f (suc i) n)

pub sets_all : (E : Effects) (sets : List ℕ) → length sets ≡ set_count → SetsBelow E set_count sets → sets ≡ sets_of E
unfolding sets_of
sets_all E sets l b =
    let f : ℕ → ℕ = λ i. effect_at E (i / most_states) (i % most_states) in
    ext_get_or 0 sets (tabulated f 0 set_count) (l ∙ sym (tabulated_long f 0 set_count))
    (λ i h. b i (omega arith) ∙ sym (tabulated_at f 0 set_count i 0 (omega arith) ∙ ap f (omega arith)))
