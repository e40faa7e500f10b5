-- Laws of sets of pairs that gain members.
use mathlib.Core.Path.{◌≡◌, refl, ◌∙◌}
use mathlib.Core.Logic.{◌⊎◌, inl, inr, ⊎_elim}
use mathlib.Core.List.{List}
use Prim.Native.Nat.{ℕ, ◌+◌, ◌^◌, ◌<◌, ◌≤◌}
use native.Mathlib.Omega.{arith}
use native.Mathlib.Nat.{not-suc-le-zero}
use native.Mathlib.Decide.{ℕ_discrete, dec_lt}
use lib.ListN.{length, length-set}
use Rattle.automata.specs.Inner.MaskTable.{put}
use Rattle.automata.proofs.BitLaws.{one_bit}
use Rattle.automata.proofs.MaskTableLaws.{put_within, put_has, put_either}
use Rattle.relaxation.specs.Inner.Pairs.{pair_count, form_part, target_part}
use Rattle.relaxation.specs.Inner.PairSet.{mask_index, Member, Gains}

abbrev pub New : Type 1
New = ℕ → ℕ → Type 0

pub gains_none : {N : New} (t : List ℕ) → ((x z : ℕ) → x < pair_count → z < pair_count → N x z → Member t x z) → Gains t t N
gains_none t h = record { long = refl; kept = λ x z m. m; either = λ x z hx hz m. inl m; has_it = h }

-- one member
pub gains_one : (t : List ℕ) (x z : ℕ) → x < pair_count → z < pair_count → mask_index x (form_part z) < length t →
    Gains t (put t (mask_index x (form_part z)) (2 ^ target_part z)) (λ x' z'. (x' ≡ x) × (z' ≡ z))
gains_one t x z hx hz l =
    record {
      long = length-set t (mask_index x (form_part z)) _;
      kept = λ x' z' m. put_within t (mask_index x (form_part z)) (2 ^ target_part z) (mask_index x' (form_part z')) (target_part z') m;
      either = λ x' z' hx' hz' m.
          ⊎_elim inl
          (λ (e, b). let d = (one_bit (target_part z) (target_part z')).0 b in inr (omega arith, omega arith))
          (put_either t (mask_index x (form_part z)) (2 ^ target_part z) (mask_index x' (form_part z')) (target_part z') m);
      has_it = λ x' z' hx' hz' (e, d).
          rw (e, d)
          (put_has t (mask_index x (form_part z)) (2 ^ target_part z) (target_part z) l ((one_bit (target_part z) (target_part z)).1 refl));
    }

-- one gain after the other; what neither brings is there in between
pub gains_then : {M N K : New} {t u v : List ℕ} → Gains t u M → Gains u v N →
    ((x z : ℕ) → x < pair_count → z < pair_count → M x z → K x z) → ((x z : ℕ) → x < pair_count → z < pair_count → N x z → K x z) →
    ((x z : ℕ) → x < pair_count → z < pair_count → K x z → M x z ⊎ (N x z ⊎ Member u x z)) → Gains t v K
gains_then a b left right all =
    record {
      long = b.long ∙ a.long;
      kept = λ x z m. b.kept x z (a.kept x z m);
      either = λ x z hx hz m.
          ⊎_elim (λ n. ⊎_elim inl (λ y. inr (left x z hx hz y)) (a.either x z hx hz n)) (λ y. inr (right x z hx hz y))
          (b.either x z hx hz m);
      has_it = λ x z hx hz k.
          ⊎_elim (λ y. b.kept x z (a.has_it x z hx hz y))
          (⊎_elim (λ y. b.has_it x z hx hz y) (λ y. b.kept x z y))
          (all x z hx hz k);
    }

-- the same gain in other words
pub gains_as : {M N : New} {t u : List ℕ} → Gains t u M → ((x z : ℕ) → x < pair_count → z < pair_count → M x z → N x z) →
    ((x z : ℕ) → x < pair_count → z < pair_count → N x z → M x z) → Gains t u N
gains_as a to back =
    record {
      long = a.long;
      kept = a.kept;
      either = λ x z hx hz m. ⊎_elim inl (λ y. inr (to x z hx hz y)) (a.either x z hx hz m);
      has_it = λ x z hx hz n. a.has_it x z hx hz (back x z hx hz n);
    }

-- What the turns below n of a loop bring: P says which members there are, and `turn` which turn brings each.
abbrev pub Passed : (ℕ → ℕ → ℕ) → New → ℕ → New
Passed turn P n x z = (turn x z < n) × P x z

module _ (turn : ℕ → ℕ → ℕ) (P : New) where
  pub passed_none : (t : List ℕ) → Gains t t (Passed turn P 0)
  passed_none t = gains_none t (λ x z hx hz (l, p). absurd (not-suc-le-zero l))

  -- a turn that brings its members, and one that has none
  pub passed_more : {M : New} {t u v : List ℕ} (n : ℕ) → Gains t u (Passed turn P n) → Gains u v M →
      ((x z : ℕ) → x < pair_count → z < pair_count → M x z → (turn x z ≡ n) × P x z) →
      ((x z : ℕ) → x < pair_count → z < pair_count → turn x z ≡ n → P x z → M x z) → Gains t v (Passed turn P (n + 1))
  passed_more n a b to back =
      gains_then a b (λ x z hx hz (l, p). (omega arith, p)) (λ x z hx hz m. let y = to x z hx hz m in (omega arith, y.1))
      (λ x z hx hz (l, p).
      elim (ℕ_discrete (turn x z) n) [ yes e ↦ inr (inl (back x z hx hz e p)) | no d ↦ inl (omega arith, p) ])

  pub passed_skip : {t u : List ℕ} (n : ℕ) → Gains t u (Passed turn P n) →
      ((x z : ℕ) → x < pair_count → z < pair_count → turn x z ≡ n → ¬ P x z) → Gains t u (Passed turn P (n + 1))
  passed_skip n a none =
      gains_as a (λ x z hx hz (l, p). (omega arith, p))
      (λ x z hx hz (l, p). elim (ℕ_discrete (turn x z) n) [ yes e ↦ absurd (none x z hx hz e p) | no d ↦ (omega arith, p) ])

  -- the turns from n on and below m bring none
  pub passed_skip_to : {t u : List ℕ} (n m : ℕ) → n ≤ m → Gains t u (Passed turn P n) →
      ((x z : ℕ) → x < pair_count → z < pair_count → n ≤ turn x z → turn x z < m → ¬ P x z) → Gains t u (Passed turn P m)
  passed_skip_to n m le a none =
      gains_as a (λ x z hx hz (l, p). (omega arith, p))
      (λ x z hx hz (l, p). elim (dec_lt (turn x z) n) [ yes y ↦ (y, p) | no y ↦ absurd (none x z hx hz (omega arith) l p) ])
