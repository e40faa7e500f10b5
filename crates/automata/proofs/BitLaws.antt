-- Laws of masks: what `|`, a shifted one, zero and a bound say of each bit, and that the bits decide the mask.
use mathlib.Core.Path.{◌≡◌, refl, sym, ◌∙◌, ap}
use mathlib.Core.Bool.{Bool, true, false, cond, not, ◌&&◌, ◌||◌, true≢false, false≢true}
use mathlib.Core.Logic.{◌↔◌, ◌⊎◌, inl, inr, ⊎_elim}
use Prim.Native.Nat.{ℕ, zero, suc, max, min, ◌+◌, ◌-◌, ◌*◌, ◌/◌, ◌%◌, ◌^◌, ◌<◌, ◌≤◌}
use native.Mathlib.Omega.{arith}
use native.Mathlib.Nat.{pow-suc, not-suc-le-zero, le_of_suc-le-suc}
use borrow.Author.Tests.{eqb-true, eq-eqb}
use lib.Dec.{eqb, eqb-suc-suc, eqb-suc-zero, eqb-zero-suc}
use lib.Bits.{bit_and, bit_or, bit_xor, differ, and_step, and_shr, or_step, or_shr, or_lt, xor_step, xor_shr}
use lib.Count.{count_trailing_zeros, under}
use native.Mathlib.Decide.{dec_lt}
use Rattle.automata.specs.Bits.{bit}
use Rattle.automata.specs.TargetBody.{most_states}
use Rattle.automata.specs.Inner.NextIn.{NextIn}
use Rattle.automata.specs.Decide.MaskBound.{half_below}
pub use Rattle.automata.specs.Decide.MaskBound.{bit_first, bit_next, bit_zero, bit_beyond}

-- a digit to the base 2
pub low_or_high : (d : ℕ) → d < 2 → (d ≡ 0) ⊎ (d ≡ 1)
low_or_high zero h = inl refl
low_or_high (suc zero) h = inr refl
low_or_high (suc (suc d)) h = absurd (omega arith)

-- an operation on digits is one on truth values if it is so on 0 and 1
by_digits : (f : ℕ → ℕ → ℕ) (g : Bool → Bool → Bool) → eqb (f 0 0) 1 ≡ g false false → eqb (f 0 1) 1 ≡ g false true →
    eqb (f 1 0) 1 ≡ g true false → eqb (f 1 1) 1 ≡ g true true → (x y : ℕ) → x < 2 → y < 2 → eqb (f x y) 1 ≡ g (eqb x 1) (eqb y 1)
by_digits f g e00 e01 e10 e11 x y hx hy =
    ⊎_elim
    (λ (ex : x ≡ 0). ⊎_elim (λ (ey : y ≡ 0). rw (ex, ey) e00) (λ (ey : y ≡ 1). rw (ex, ey) e01) (low_or_high y hy))
    (λ (ex : x ≡ 1). ⊎_elim (λ (ey : y ≡ 0). rw (ex, ey) e10) (λ (ey : y ≡ 1). rw (ex, ey) e11) (low_or_high y hy))
    (low_or_high x hx)

or_odd : (a b : ℕ) → bit_or a b % 2 ≡ max (a % 2) (b % 2)
or_odd a b = let e = or_step a b in omega arith

pub bit_of_or : (a b i : ℕ) → bit (bit_or a b) i ≡ (bit a i || bit b i)
unfolding bit
bit_of_or a b i =
    ap (λ x. eqb (x % 2) 1) (or_shr a b i) ∙
    ap (λ x. eqb x 1) (or_odd (a / 2 ^ i) (b / 2 ^ i)) ∙
    by_digits max (λ x y. x || y) refl refl refl refl (a / 2 ^ i % 2) (b / 2 ^ i % 2) (omega arith) (omega arith)

and_odd : (a b : ℕ) → bit_and a b % 2 ≡ min (a % 2) (b % 2)
and_odd a b = let e = and_step a b in omega arith

pub bit_of_and : (a b i : ℕ) → bit (bit_and a b) i ≡ (bit a i && bit b i)
unfolding bit
bit_of_and a b i =
    ap (λ x. eqb (x % 2) 1) (and_shr a b i) ∙
    ap (λ x. eqb x 1) (and_odd (a / 2 ^ i) (b / 2 ^ i)) ∙
    by_digits min (λ x y. x && y) refl refl refl refl (a / 2 ^ i % 2) (b / 2 ^ i % 2) (omega arith) (omega arith)

-- 1 << i has bit i alone
pub bit_one : (i j : ℕ) → bit (2 ^ i) j ≡ eqb j i
bit_one zero zero = bit_first 1
bit_one zero (suc j) = bit_next 1 j ∙ bit_zero j ∙ sym (eqb-suc-zero j)
bit_one (suc i) zero =
    bit_first (2 ^ suc i) ∙ ap (λ x. eqb x 1) (ap (λ x. x % 2) (pow-suc 2 i) ∙ double_even (2 ^ i)) ∙ sym (eqb-zero-suc i)
  where
    double_even : (x : ℕ) → x * 2 % 2 ≡ 0
    double_even x = omega arith
bit_one (suc i) (suc j) =
    bit_next (2 ^ suc i) j ∙ ap (λ x. bit x j) (ap (λ x. x / 2) (pow-suc 2 i) ∙ double_half (2 ^ i)) ∙ bit_one i j ∙ sym (eqb-suc-suc j i)
  where
    double_half : (x : ℕ) → x * 2 / 2 ≡ x
    double_half x = omega arith

pub one_bit : (i j : ℕ) → (bit (2 ^ i) j ≡ true) ↔ (j ≡ i)
one_bit i j = rw (bit_one i j) (eqb-true j i, eq-eqb j i)

-- a mask with one bit more
pub bit_with : (m i j : ℕ) → bit (bit_or m (2 ^ i)) j ≡ (bit m j || eqb j i)
bit_with m i j = bit_of_or m (2 ^ i) j ∙ ap (λ b. bit m j || b) (bit_one i j)

tested : {x d : ℕ} → x ≡ d → eqb x 1 ≡ eqb d 1
tested i = ap (λ n. eqb n 1) i

same_digit : (x y : ℕ) → x < 2 → y < 2 → eqb x 1 ≡ eqb y 1 → x ≡ y
same_digit x y hx hy e =
    ⊎_elim
    (λ ex. ⊎_elim (λ ey. omega arith) (λ ey. absurd (false≢true (sym (tested ex) ∙ e ∙ tested ey))) (low_or_high y hy))
    (λ ex. ⊎_elim (λ ey. absurd (true≢false (sym (tested ex) ∙ e ∙ tested ey))) (λ ey. omega arith) (low_or_high y hy))
    (low_or_high x hx)

-- masks below 2 ^ k with the same bits are the same
pub bit_ext : (k a b : ℕ) → a < 2 ^ k → b < 2 ^ k → ((i : ℕ) → i < k → bit a i ≡ bit b i) → a ≡ b
bit_ext zero a b ha hb same = omega arith
bit_ext (suc k) a b ha hb same =
    let next : (i : ℕ) → i < k → bit (a / 2) i ≡ bit (b / 2) i = λ i l. sym (bit_next a i) ∙ same (suc i) (omega arith) ∙ bit_next b i in
    let halves : a / 2 ≡ b / 2 = bit_ext k (a / 2) (b / 2) (half_below a k ha) (half_below b k hb) next in
    let odds : a % 2 ≡ b % 2 =
    same_digit (a % 2) (b % 2) (omega arith) (omega arith) (sym (bit_first a) ∙ same zero (omega arith) ∙ bit_first b) in
    omega arith

-- `(a | b) == b` tests that the set a is within b
pub within_bits : (a b : ℕ) → bit_or a b ≡ b → (i : ℕ) → bit a i ≡ true → bit b i ≡ true
within_bits a b e i h = sym (ap (λ x. bit x i) e) ∙ bit_of_or a b i ∙ ap (λ x. x || bit b i) h

or_within : (x y : Bool) → (x ≡ true → y ≡ true) → (x || y) ≡ y
or_within true y h = sym (h refl)
or_within false y h = refl

pub bits_within : (k a b : ℕ) → a < 2 ^ k → b < 2 ^ k → ((i : ℕ) → bit a i ≡ true → bit b i ≡ true) → bit_or a b ≡ b
bits_within k a b ha hb h = bit_ext k (bit_or a b) b (or_lt k a b ha hb) hb (λ i l. bit_of_or a b i ∙ or_within (bit a i) (bit b i) (h i))

-- The zeros below the lowest bit that is set: they are not set, and it is.
pub zeros_below : (d n i : ℕ) → i < count_trailing_zeros d n → bit n i ≡ false
unfolding count_trailing_zeros
zeros_below zero n i h = absurd (not-suc-le-zero h)
zeros_below (suc d) n i h = go (n % 2) refl i h (zeros_below d (n / 2))
  where
    go : (r : ℕ) → n % 2 ≡ r → (i : ℕ) → i < under r (count_trailing_zeros d (n / 2)) →
        ((j : ℕ) → j < count_trailing_zeros d (n / 2) → bit (n / 2) j ≡ false) → bit n i ≡ false
    go zero e zero l rest = bit_first n ∙ ap (λ x. eqb x 1) e
    go zero e (suc j) l rest = bit_next n j ∙ rest j (le_of_suc-le-suc l)
    go (suc r) e i l rest = absurd (not-suc-le-zero l)

pub zeros_end : (d n : ℕ) → 0 < n → n < 2 ^ d → (count_trailing_zeros d n < d) × (bit n (count_trailing_zeros d n) ≡ true)
unfolding count_trailing_zeros
zeros_end zero n h k = absurd (omega arith)
zeros_end (suc d) n h k = go (n % 2) refl (λ l. zeros_end d (n / 2) l (half_below n d k))
  where
    go : (r : ℕ) → n % 2 ≡ r →
        (0 < n / 2 → (count_trailing_zeros d (n / 2) < d) × (bit (n / 2) (count_trailing_zeros d (n / 2)) ≡ true)) →
        (under r (count_trailing_zeros d (n / 2)) < suc d) × (bit n (under r (count_trailing_zeros d (n / 2))) ≡ true)
    go zero e rest = let (l, b) = rest (omega arith) in (omega arith, bit_next n (count_trailing_zeros d (n / 2)) ∙ b)
    go (suc r) e rest = let o : n % 2 ≡ 1 = omega arith in (omega arith, bit_first n ∙ ap (λ x. eqb x 1) o)

-- A number less one has not the lowest bit of the number, and those above it.
pub less_one : (d n : ℕ) → 0 < n → n < 2 ^ d → (bit (n - 1) (count_trailing_zeros d n) ≡ false) ×
    ((i : ℕ) → count_trailing_zeros d n < i → bit (n - 1) i ≡ bit n i)
unfolding count_trailing_zeros
less_one zero n h k = absurd (omega arith)
less_one (suc d) n h k = go (n % 2) refl (λ l. less_one d (n / 2) l (half_below n d k))
  where
    go : (r : ℕ) → n % 2 ≡ r →
        (0 < n / 2 → (bit (n / 2 - 1) (count_trailing_zeros d (n / 2)) ≡ false) ×
        ((i : ℕ) → count_trailing_zeros d (n / 2) < i → bit (n / 2 - 1) i ≡ bit (n / 2) i)) →
        (bit (n - 1) (under r (count_trailing_zeros d (n / 2))) ≡ false) ×
        ((i : ℕ) → under r (count_trailing_zeros d (n / 2)) < i → bit (n - 1) i ≡ bit n i)
    go zero e rest =
        let (off, same) = rest (omega arith) in
        let half : (n - 1) / 2 ≡ n / 2 - 1 = omega arith in
        let next : (j : ℕ) → bit (n - 1) (suc j) ≡ bit (n / 2 - 1) j = λ j. bit_next (n - 1) j ∙ ap (λ x. bit x j) half in (
          next (count_trailing_zeros d (n / 2)) ∙ off,
          λ i l. above i l (λ j b. next j ∙ same j b ∙ sym (bit_next n j)),
        )
      where
        above : (i : ℕ) → suc (count_trailing_zeros d (n / 2)) < i →
            ((j : ℕ) → count_trailing_zeros d (n / 2) < j → bit (n - 1) (suc j) ≡ bit n (suc j)) → bit (n - 1) i ≡ bit n i
        above zero l f = absurd (not-suc-le-zero l)
        above (suc j) l f = f j (le_of_suc-le-suc l)
    go (suc r) e rest =
        let even : (n - 1) % 2 ≡ 0 = omega arith in
        let half : (n - 1) / 2 ≡ n / 2 = omega arith in
        let next : (j : ℕ) → bit (n - 1) (suc j) ≡ bit n (suc j) =
        λ j. bit_next (n - 1) j ∙ ap (λ x. bit x j) half ∙ sym (bit_next n j) in
        (bit_first (n - 1) ∙ ap (λ x. eqb x 1) even, λ i l. above i l next)
      where
        above : (i : ℕ) → 0 < i → ((j : ℕ) → bit (n - 1) (suc j) ≡ bit n (suc j)) → bit (n - 1) i ≡ bit n i
        above zero l f = absurd (not-suc-le-zero l)
        above (suc j) l f = f j

and_false : (x : Bool) → (x && false) ≡ false
and_false true = refl
and_false false = refl

and_same : (x : Bool) → (x && x) ≡ x
and_same true = refl
and_same false = refl

-- the first element of a mask m that is not empty: its lowest bit
module _ (m : ℕ) (h : m < 2 ^ most_states) (n : 0 < m) where
  pub first_there : (count_trailing_zeros most_states m < most_states) × NextIn m 0 (count_trailing_zeros most_states m)
  first_there =
      let (l, b) = zeros_end most_states m n h in
      (l, record { from_on = omega arith; within = omega arith; none = λ i a c. zeros_below most_states m i c; there = λ c. b })

  -- `m & (m - 1)` is m without it
  pub first_gone : (i : ℕ) → i < count_trailing_zeros most_states m + 1 → bit (bit_and m (m - 1)) i ≡ false
  first_gone i l =
      bit_of_and m (m - 1) i ∙
      elim (dec_lt i (count_trailing_zeros most_states m)) [
        | yes a ↦ rw (zeros_below most_states m i a) refl
        | no a ↦
            let e : i ≡ count_trailing_zeros most_states m = omega arith in
            rw (e, (less_one most_states m n h).0) (and_false _)
      ]

  pub others_left : (i : ℕ) → count_trailing_zeros most_states m + 1 ≤ i → bit (bit_and m (m - 1)) i ≡ bit m i
  others_left i l = bit_of_and m (m - 1) i ∙ rw ((less_one most_states m n h).1 i (omega arith)) (and_same (bit m i))

-- `^`, and the bits of one mask that another does not have
differ_low : (x y : ℕ) → x < 2 → y < 2 → differ x y < 2
differ_low zero y hx hy = hy
differ_low (suc x) zero hx hy = hx
differ_low (suc x) (suc y) hx hy = differ_low x y (omega arith) (omega arith)

xor_odd : (a b : ℕ) → bit_xor a b % 2 ≡ differ (a % 2) (b % 2)
xor_odd a b = let e = xor_step a b in let l = differ_low (a % 2) (b % 2) (omega arith) (omega arith) in omega arith

bit_of_xor : (a b i : ℕ) → bit (bit_xor a b) i ≡ cond (bit a i) (not (bit b i)) (bit b i)
unfolding bit
bit_of_xor a b i =
    ap (λ x. eqb (x % 2) 1) (xor_shr a b i) ∙
    ap (λ x. eqb x 1) (xor_odd (a / 2 ^ i) (b / 2 ^ i)) ∙
    by_digits differ (λ x y. cond x (not y) y) refl refl refl refl (a / 2 ^ i % 2) (b / 2 ^ i % 2) (omega arith) (omega arith)

pub bit_left : (h m i : ℕ) → bit (bit_xor (bit_or h m) h) i ≡ (bit m i && not (bit h i))
bit_left h m i = bit_of_xor (bit_or h m) h i ∙ rw (bit_of_or h m i) (go (bit h i) (bit m i))
  where
    go : (x y : Bool) → cond (x || y) (not x) x ≡ (y && not x)
    go true true = refl
    go true false = refl
    go false true = refl
    go false false = refl
