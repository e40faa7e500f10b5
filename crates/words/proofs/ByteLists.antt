-- Lists of bytes, and numbers in two of them.
use mathlib.Core.Path.{◌≡◌, ap₂, subst}
use mathlib.Core.List.{List, [], ◌∷◌, ◌++◌, flat_map}
use Prim.Native.Nat.{ℕ, zero, suc, ◌+◌, ◌-◌, ◌*◌, ◌/◌, ◌%◌, ◌<◌}
use native.Mathlib.Omega.{arith}
use native.Mathlib.Decide.{dec_lt}
use lib.ListN.{length, length-append, get_or-append}
use lib.Seq.{get_or-append-add}
use Rattle.words.specs.Numbers.{byte_at, AreBytes, two_bytes}

bytes_none : AreBytes []
bytes_none i h = absurd (omega arith)

pub bytes_cons : (n : ℕ) (l : List ℕ) → n < 256 → AreBytes l → AreBytes (n ∷ l)
bytes_cons n l h b zero k = h
bytes_cons n l h b (suc i) k = b i (omega arith)

pub bytes_join : (l m : List ℕ) → AreBytes l → AreBytes m → AreBytes (l ++ m)
bytes_join l m a b i h =
    elim (dec_lt i (length l)) [
      | yes k ↦ rw (get_or-append l m 0 i k) (a i k)
      | no k ↦
          let e : length l + (i - length l) ≡ i = omega arith in
          let n = length-append l m in
          subst (λ j. byte_at (l ++ m) j < 256) e (rw (get_or-append-add l m (i - length l) 0) (b (i - length l) (omega arith)))
    ]

-- what is written of the members of a list, if it is of bytes at each
module _ {X : Type 0} (f : X → List ℕ) where
  abbrev pub BytesEach : List X → Type 0
  BytesEach [] = Unit {0}
  BytesEach (x ∷ l) = AreBytes (f x) × BytesEach l

  pub bytes_each : (l : List X) → BytesEach l → AreBytes (flat_map f l)
  unfolding flat_map
  bytes_each [] p = bytes_none
  bytes_each (x ∷ l) p = bytes_join (f x) (flat_map f l) p.0 (bytes_each l p.1)

-- a number in two bytes, there and back
pub two_are_bytes : (n : ℕ) → n < 65536 → AreBytes (two_bytes n)
two_are_bytes n h = bytes_cons (n % 256) (n / 256 ∷ []) (omega arith) (bytes_cons (n / 256) [] (omega arith) bytes_none)

pub number_of : (n : ℕ) → n % 256 + 256 * (n / 256) ≡ n
number_of n = omega arith

pub bytes_of : (a b : ℕ) → a < 256 → two_bytes (a + 256 * b) ≡ a ∷ b ∷ []
bytes_of a b h =
    let low : (a + 256 * b) % 256 ≡ a = omega arith in
    let high : (a + 256 * b) / 256 ≡ b = omega arith in
    ap₂ (λ x y. x ∷ y ∷ []) low high
