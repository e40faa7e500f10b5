-- Laws of masks that are shifted, or cut off.
use mathlib.Core.Path.{◌≡◌, sym, ◌∙◌, ap}
use mathlib.Core.Bool.{false}
use mathlib.Core.Logic.{◌↔◌}
use Prim.Native.Nat.{ℕ, suc, ◌+◌, ◌-◌, ◌*◌, ◌/◌, ◌%◌, ◌^◌, ◌<◌, ◌≤◌}
use native.Mathlib.Omega.{arith}
use native.Mathlib.Nat.{div-eq_of_lt, div-lt_iff_lt-mul, mul_assoc, pow-suc}
use lib.Dec.{eqb}
use lib.Pow.{pow_pos, pow-add, shl-shr, shr-shr, field, mod-mod-pow}
use Rattle.automata.specs.Bits.{bit}
use Rattle.automata.specs.Decide.MaskBound.{bits_below}

pub bit_of_shr : (m k i : ℕ) → bit (m / 2 ^ k) i ≡ bit m (k + i)
unfolding bit
bit_of_shr m k i = ap (λ x. eqb (x % 2) 1) (shr-shr m k i)

-- the low k bits
pub bit_mod : (m k i : ℕ) → i < k → bit (m % 2 ^ k) i ≡ bit m i
unfolding bit
bit_mod m k i h =
    let j = k - suc i in
    let e : k ≡ (j + 1) + i = omega arith in
    ap (λ x. eqb (x % 2) 1) (ap (λ n. m % 2 ^ n / 2 ^ i) e ∙ field m (j + 1) i) ∙ ap (λ x. eqb x 1) (mod-mod-pow (m / 2 ^ i) j 1)

-- a mask has no bit of n or more exactly when a shift by n leaves nothing of it
pub shifted_out : (n m : ℕ) → (m / 2 ^ n ≡ 0) ↔ ((i : ℕ) → n ≤ i → bit m i ≡ false)
shifted_out n m = (
  λ e. (bits_below m n).1 (let h : m < 1 * 2 ^ n = (div-lt_iff_lt-mul (pow_pos n)).0 (omega arith) in omega arith),
  λ none. div-eq_of_lt ((bits_below m n).0 none),
)

-- what is left where the bits below k are shifted out and back
module _ (m k i : ℕ) where
  pub shifted_back : k ≤ i → bit (m / 2 ^ k * 2 ^ k) i ≡ bit m i
  shifted_back h =
      let e : k + (i - k) ≡ i = omega arith in
      rw (← e) (sym (bit_of_shr (m / 2 ^ k * 2 ^ k) k (i - k)) ∙ ap (λ x. bit x (i - k)) (shl-shr (m / 2 ^ k) k) ∙ bit_of_shr m k (i - k))

  pub shifted_away : i < k → bit (m / 2 ^ k * 2 ^ k) i ≡ false
  unfolding bit
  shifted_away h =
      let x = m / 2 ^ k in
      let j = k - suc i in
      let e : k ≡ suc j + i = omega arith in
      let far : x * 2 ^ k ≡ x * 2 ^ suc j * 2 ^ i =
      ap (λ n. x * 2 ^ n) e ∙ ap (λ n. x * n) (pow-add 2 (suc j) i) ∙ sym (mul_assoc x (2 ^ suc j) (2 ^ i)) in
      let twice : x * 2 ^ suc j ≡ x * 2 ^ j * 2 = ap (λ n. x * n) (pow-suc 2 j) ∙ sym (mul_assoc x (2 ^ j) 2) in
      ap (λ n. eqb (n / 2 ^ i % 2) 1) far ∙
      ap (λ n. eqb (n % 2) 1) (shl-shr (x * 2 ^ suc j) i ∙ twice) ∙
      ap (λ n. eqb n 1) (double_even (x * 2 ^ j))
    where
      double_even : (x : ℕ) → x * 2 % 2 ≡ 0
      double_even x = omega arith
