-- A mask has no bit at or beyond n exactly when it is below 2 ^ n. A reader of the contracts needs only the type of `bits_below`: by it
-- a condition on every bit is decided.
use Rattle.std.specs.Prelude.{◌≡◌, false, ◌↔◌, ℕ, zero, suc, ◌/◌, ◌%◌, ◌^◌, ◌<◌, ◌≤◌, eqb}
use Rattle.std.proofs.Common.{sym, ◌∙◌, ap, true≢false, arith, pow-suc, div-one, not-suc-le-zero, eq-eqb}
use Rattle.std.proofs.Math.Nat.{pow-succ', zero-div, div-div-eq-div-mul}
use Rattle.automata.specs.Bits.{bit}

pub bit_first : (m : ℕ) → bit m 0 ≡ eqb (m % 2) 1
unfolding bit
bit_first m = ap (λ x. eqb (x % 2) 1) (div-one m)

pub bit_next : (m i : ℕ) → bit m (suc i) ≡ bit (m / 2) i
unfolding bit
bit_next m i = ap (λ x. eqb (x % 2) 1) (ap (λ d. m / d) (pow-succ' 2 i) ∙ sym (div-div-eq-div-mul m 2 (2 ^ i)))

pub bit_zero : (i : ℕ) → bit 0 i ≡ false
unfolding bit
bit_zero i = ap (λ x. eqb (x % 2) 1) (zero-div (2 ^ i))

pub half_below : (a k : ℕ) → a < 2 ^ suc k → a / 2 < 2 ^ k
half_below a k h = let e = pow-suc 2 k in omega arith

-- no bit is set at or beyond a bound
pub bit_beyond : (k m i : ℕ) → m < 2 ^ k → k ≤ i → bit m i ≡ false
bit_beyond zero m i h l = let e : m ≡ 0 = omega arith in ap (λ x. bit x i) e ∙ bit_zero i
bit_beyond (suc k) m zero h l = absurd (not-suc-le-zero l)
bit_beyond (suc k) m (suc i) h l = bit_next m i ∙ bit_beyond k (m / 2) i (half_below m k h) (omega arith)

below_power : (m : ℕ) → m < 2 ^ m
below_power zero = omega arith
below_power (suc m) = let l = below_power m in let e = pow-suc 2 m in omega arith

even : (m : ℕ) → bit m 0 ≡ false → m % 2 ≡ 1 → ⊥
even m h e = true≢false (sym (bit_first m ∙ eq-eqb (m % 2) 1 e) ∙ h)

-- a mask with no bit is zero
zero_mask : (k m : ℕ) → m < 2 ^ k → ((i : ℕ) → bit m i ≡ false) → m ≡ 0
zero_mask zero m h none = omega arith
zero_mask (suc k) m h none =
    let half : m / 2 ≡ 0 = zero_mask k (m / 2) (half_below m k h) (λ i. sym (bit_next m i) ∙ none (suc i)) in
    let n = even m (none 0) in
    omega arith

bound : (m n : ℕ) → ((i : ℕ) → n ≤ i → bit m i ≡ false) → m < 2 ^ n
bound m zero none = let e = zero_mask m m (below_power m) (λ i. none i (omega arith)) in omega arith
bound m (suc n) none =
    let half = bound (m / 2) n (λ i l. sym (bit_next m i) ∙ none (suc i) (omega arith)) in
    let e = pow-suc 2 n in
    omega arith

pub bits_below : (m n : ℕ) → ((i : ℕ) → n ≤ i → bit m i ≡ false) ↔ (m < 2 ^ n)
bits_below m n = (bound m n, λ l i h. bit_beyond n m i l h)
