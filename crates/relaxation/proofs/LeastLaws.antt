-- Laws of a search for the least number: what is known of it after the turns passed.
use mathlib.Core.Path.{◌≡◌, refl}
use mathlib.Core.Logic.{inl, inr, ⊎_elim}
use Prim.Native.Nat.{ℕ, min, ◌+◌, ◌<◌, ◌≤◌}
use native.Mathlib.Omega.{arith}
use native.Mathlib.Decide.{ℕ_discrete, dec_lt}
use Rattle.relaxation.specs.Inner.Lengths.{LeastOf}

module _ (Counts : ℕ → Type 0) (f : ℕ → ℕ) {n k : ℕ} (b : LeastOf Counts f n k) where
  -- a turn that has a lesser number, and one that has none
  pub least_more : Counts n → f n < k → LeastOf Counts f (n + 1) (f n)
  least_more c h =
      record {
        below = λ i l ci.
            elim (ℕ_discrete i n) [ yes e ↦ rw e (omega arith) | no d ↦ let y = b.below i (omega arith) ci in omega arith ];
        from = inr (n, omega arith, c, refl);
      }

  pub least_keep : (Counts n → k ≤ f n) → LeastOf Counts f (n + 1) k
  least_keep h =
      record {
        below = λ i l ci. elim (ℕ_discrete i n) [ yes e ↦ rw e (h (rw e at ci)) | no d ↦ b.below i (omega arith) ci ];
        from = ⊎_elim inl (λ (i, l, c, e). inr (i, omega arith, c, e)) b.from;
      }

  -- the lesser of the two
  pub least_min : Counts n → LeastOf Counts f (n + 1) (min k (f n))
  least_min c =
      elim (dec_lt (f n) k) [
        | yes h ↦ let e : min k (f n) ≡ f n = omega arith in rw e (least_more c h)
        | no h ↦ let e : min k (f n) ≡ k = omega arith in rw e (least_keep (λ y. omega arith))
      ]
