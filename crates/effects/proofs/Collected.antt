-- A mask that a loop collects, one bit for each number that passes a test.
use mathlib.Core.Path.{◌≡◌, sym, ◌∙◌, ap}
use mathlib.Core.Bool.{Bool, true, false, cond, ◌&&◌, ◌||◌, and-true, and-false, or-false}
use Prim.Native.Nat.{ℕ, ◌+◌, ◌^◌, ◌<◌, ◌≤◌}
use native.Mathlib.Omega.{arith}
use native.Mathlib.Decide.{dec_lt}
use borrow.Author.Tests.{eq-eqb, ne_eqb}
use lib.Bits.{bit_or}
use lib.Dec.{eqb}
use Rattle.automata.specs.Bits.{bit}
use Rattle.automata.proofs.BitLaws.{bit_zero, bit_with}

-- the mask m has those numbers below i that pass, and no other
pub record Collected (p : ℕ → Bool) (i m : ℕ) : Type 0 where
  pub below : (k : ℕ) → k < i → bit m k ≡ p k
  pub beyond : (k : ℕ) → i ≤ k → bit m k ≡ false

pub collected_none : (p : ℕ → Bool) → Collected p 0 0
collected_none p = record { below = λ k h. absurd (omega arith); beyond = λ k h. bit_zero k }

-- bit i is put in, or is not
carried : (m i k : ℕ) (b : Bool) → bit (cond b (bit_or m (2 ^ i)) m) k ≡ (bit m k || (b && eqb k i))
carried m i k true = bit_with m i k
carried m i k false = sym (or-false (bit m k))

others : (m i k : ℕ) (b : Bool) → (k ≡ i → ⊥) → bit (cond b (bit_or m (2 ^ i)) m) k ≡ bit m k
others m i k b n = carried m i k b ∙ rw (ne_eqb k i n, and-false b) (or-false (bit m k))

-- the turn of a test that another mask answers
pub collected_carry : (p : ℕ → Bool) (i m : ℕ) → Collected p i m → (b : Bool) → p i ≡ b → Collected p (i + 1) (cond b (bit_or m (2 ^ i)) m)
collected_carry p i m g b e =
    record {
      below = λ k h. elim (dec_lt k i) [
        | yes l ↦ others m i k b (λ x. omega arith) ∙ g.below k l
        | no n ↦
            let x : k ≡ i = omega arith in
            carried m i k b ∙ rw (g.beyond k (omega arith), eq-eqb k i x, and-true b) (sym (ap p x ∙ e))
      ];
      beyond = λ k h. others m i k b (λ x. omega arith) ∙ g.beyond k (omega arith);
    }
