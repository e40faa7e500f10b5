-- How many members the sets of a table have: a bound on it, and that it grows where a set has a new member.
use mathlib.Core.Path.{◌≡◌, refl}
use mathlib.Core.Bool.{Bool, true, false, cond, false≢true}
use mathlib.Core.List.{List, [], ◌∷◌}
use mathlib.Core.Logic.{⊎_elim}
use Prim.Native.Nat.{ℕ, zero, suc, ◌+◌, ◌*◌, ◌/◌, ◌%◌, ◌<◌, ◌≤◌}
use native.Mathlib.Omega.{arith}
use native.Mathlib.Nat.{not-suc-le-zero, le_of_suc-le-suc}
use native.Mathlib.Decide.{ℕ_discrete}
use lib.ListN.{length, get_or}
use Rattle.words.proofs.Truth.{true_or_false}
use Rattle.automata.specs.Bits.{bit}
use Rattle.automata.specs.ReplyBody.{most_reply_states}
use Rattle.automata.specs.TargetBody.{most_states}
use Rattle.automata.specs.Inner.MaskTable.{Has}
use Rattle.relaxation.specs.Inner.Pairs.{pair_count, form_part, target_part}
use Rattle.relaxation.specs.Inner.PairSet.{mask_count, mask_index, Member, Gains}
use Rattle.lengths.specs.Inner.Search.{size, member_count}
use Rattle.relaxation.proofs.PairLaws.{target_of_lem}

-- a mask has at most so many states, and one with a state more is larger
size_below : (n m : ℕ) → size n m ≤ n
unfolding size
size_below zero m = omega arith
size_below (suc n) m =
    let r = size_below n m in
    elim (bit m n) as (λ b. cond b (suc (size n m)) (size n m) ≤ suc n) [ true ↦ omega arith | false ↦ omega arith ]

one_more : (x y : Bool) (a b : ℕ) → (x ≡ true → y ≡ true) → a ≤ b → cond x (suc a) a ≤ cond y (suc b) b
one_more false false a b k h = h
one_more false true a b k h = omega arith
one_more true false a b k h = absurd (false≢true (k refl))
one_more true true a b k h = omega arith

one_less : (x y : Bool) (a b : ℕ) → (x ≡ true → y ≡ true) → a < b → cond x (suc a) a < cond y (suc b) b
one_less false false a b k h = h
one_less false true a b k h = omega arith
one_less true false a b k h = absurd (false≢true (k refl))
one_less true true a b k h = omega arith

module _ (a b : ℕ) where
  size_least : (n : ℕ) → ((s : ℕ) → s < n → bit a s ≡ true → bit b s ≡ true) → size n a ≤ size n b
  unfolding size
  size_least zero h = omega arith
  size_least (suc n) h = one_more (bit a n) (bit b n) (size n a) (size n b) (h n (omega arith)) (size_least n (λ s l. h s (omega arith)))

  size_less : (n : ℕ) → ((s : ℕ) → s < n → bit a s ≡ true → bit b s ≡ true) → (i : ℕ) → i < n → bit a i ≡ false → bit b i ≡ true →
      size n a < size n b
  unfolding size
  size_less zero h i l none some = absurd (not-suc-le-zero l)
  size_less (suc n) h i l none some =
      elim (ℕ_discrete i n) [
        | yes e ↦ let r = size_least n (λ s l. h s (omega arith)) in rw (rw e at none, rw e at some) (omega arith)
        | no d ↦
            one_less (bit a n) (bit b n) (size n a) (size n b) (h n (omega arith))
            (size_less n (λ s l. h s (omega arith)) i (omega arith) none some)
      ]

pub count_below : (t : List ℕ) → member_count t ≤ length t * most_states
unfolding member_count
count_below [] = omega arith
count_below (y ∷ t) =
    let z = size_below most_states y in
    let r = count_below t in
    omega arith

-- a table that has the members of another, and one more
Within : ℕ → ℕ → Type 0
Within a b = (s : ℕ) → s < most_states → bit a s ≡ true → bit b s ≡ true

count_least : (t u : List ℕ) → length u ≡ length t → ((i : ℕ) → i < length t → Within (get_or t i 0) (get_or u i 0)) →
    member_count t ≤ member_count u
unfolding member_count Within
count_least [] u e h = omega arith
count_least (x ∷ t) [] e h = absurd (omega arith)
count_least (x ∷ t) (y ∷ u) e h =
    let a = size_least x y most_states (h zero (omega arith)) in
    let b = count_least t u (omega arith) (λ i l. h (suc i) (omega arith)) in
    omega arith

count_less : (t u : List ℕ) → length u ≡ length t → ((i : ℕ) → i < length t → Within (get_or t i 0) (get_or u i 0)) →
    (k s : ℕ) → k < length t → s < most_states → bit (get_or t k 0) s ≡ false → bit (get_or u k 0) s ≡ true →
    member_count t < member_count u
unfolding member_count Within
count_less [] u e h k s l m none some = absurd (not-suc-le-zero l)
count_less (x ∷ t) [] e h k s l m none some = absurd (omega arith)
count_less (x ∷ t) (y ∷ u) e h zero s l m none some =
    let a = size_less x y most_states (h zero (omega arith)) s m none some in
    let b = count_least t u (omega arith) (λ i l. h (suc i) (omega arith)) in
    omega arith
count_less (x ∷ t) (y ∷ u) e h (suc k) s l m none some =
    let a = size_least x y most_states (h zero (omega arith)) in
    let b = count_less t u (omega arith) (λ i l. h (suc i) (omega arith)) k s (le_of_suc-le-suc l) m none some in
    omega arith

-- where a bit stands in a table
index_of : (i s : ℕ) → s < most_states → mask_index (i / most_reply_states) (form_part (most_states * (i % most_reply_states) + s)) ≡ i
index_of i s h = omega arith

-- a table with a new member has more of them
module _ {N : ℕ → ℕ → Type 0} {t t' : List ℕ} (g : Gains t t' N) (long : length t ≡ mask_count) where
  kept_at : (i s : ℕ) → s < most_states → Has t i s → Has t' i s
  kept_at i s h m =
      let r : ℕ = i % most_reply_states in
      rw (index_of i s h, target_of_lem r s h) at
      (g.kept (i / most_reply_states) (most_states * r + s) (rw (index_of i s h, target_of_lem r s h) m))

  pub gains_more : (x z : ℕ) → x < pair_count → z < pair_count → N x z → ¬ Member t x z → member_count t < member_count t'
  unfolding Within
  gains_more x z hx hz n new =
      let i : ℕ = mask_index x (form_part z) in
      let none = ⊎_elim (λ m. absurd (new m)) (λ e. e) (true_or_false (bit (get_or t i 0) (target_part z))) in
      count_less t t' g.long (λ j k s h. kept_at j s h) i (target_part z) (omega arith) (omega arith) none (g.has_it x z hx hz n)
