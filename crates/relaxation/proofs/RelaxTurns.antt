-- The candidates of a loop, turn by turn: none before the first turn, those of a turn, turns that have none, and all of them.
use mathlib.Core.Logic.{inl, inr}
use Prim.Native.Nat.{ℕ, ◌+◌, ◌<◌, ◌≤◌}
use native.Mathlib.Omega.{arith}
use native.Mathlib.Decide.{ℕ_discrete, dec_lt}
use Rattle.relaxation.specs.Inner.Pairs.{pair_count}
use Rattle.relaxation.specs.Inner.Relaxation.{Found, Relaxed}
use Rattle.relaxation.proofs.Relaxing.{Candidate, relaxed_known, relaxed_then, relaxed_as}

-- it is a candidate of one of the turns below n
abbrev pub Passed : (ℕ → ℕ → ℕ → ℕ → Type 0) → ℕ → ℕ → ℕ → ℕ → Type 0
Passed T n x z k = (i : ℕ) × (i < n) × T i x z k

module _ {next : ℕ} (T : ℕ → Candidate) where
  pub turns_none : (f : Found) → Relaxed next (Passed T 0) f f
  turns_none f = relaxed_known f (λ x z k hx hz (i, l, t). absurd (omega arith))

  module _ {f g : Found} (i : ℕ) (u : Relaxed next (Passed T i) f g) where
    pub turns_more : {P : Candidate} {h : Found} → Relaxed next P g h →
        ((x z k : ℕ) → x < pair_count → z < pair_count → P x z k → T i x z k) →
        ((x z k : ℕ) → x < pair_count → z < pair_count → T i x z k → P x z k) → Relaxed next (Passed T (i + 1)) f h
    turns_more v to back =
        relaxed_then u v (λ x z k hx hz (j, l, t). (j, omega arith, t)) (λ x z k hx hz p. (i, omega arith, to x z k hx hz p))
        (λ x z k hx hz (j, l, t).
        elim (ℕ_discrete j i) [
          | yes e ↦ inr (inl (back x z k hx hz (rw e at t)))
          | no n ↦ inl (j, omega arith, t)
        ])

    pub turns_skip : ((x z k : ℕ) → x < pair_count → z < pair_count → T i x z k → ⊥) → Relaxed next (Passed T (i + 1)) f g
    turns_skip none =
        turns_more (relaxed_known {P = T i} g (λ x z k hx hz t. absurd (none x z k hx hz t))) (λ x z k hx hz t. t) (λ x z k hx hz t. t)

  -- no turn from i on below j has a candidate
  pub turns_skip_to : {f g : Found} (i j : ℕ) → i ≤ j → Relaxed next (Passed T i) f g →
      ((k x z n : ℕ) → i ≤ k → k < j → x < pair_count → z < pair_count → T k x z n → ⊥) → Relaxed next (Passed T j) f g
  turns_skip_to i j h u none =
      relaxed_as u (λ x z n hx hz (k, l, t). (k, omega arith, t))
      (λ x z n hx hz (k, l, t).
      elim (dec_lt k i) [
        | yes a ↦ inl (k, a, t)
        | no a ↦ absurd (none k x z n (omega arith) l hx hz t)
      ])

  pub turns_all : {f g : Found} {Q : Candidate} (n : ℕ) → Relaxed next (Passed T n) f g →
      ((x z k i : ℕ) → x < pair_count → z < pair_count → i < n → T i x z k → Q x z k) →
      ((x z k : ℕ) → x < pair_count → z < pair_count → Q x z k → Passed T n x z k) → Relaxed next Q f g
  turns_all n u to back =
      relaxed_as u (λ x z k hx hz (i, l, t). to x z k i hx hz l t) (λ x z k hx hz q. inl (back x z k hx hz q))
