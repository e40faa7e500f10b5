-- Laws of the image of a mask.
use mathlib.Core.Path.{◌≡◌, refl, sym, ap}
use mathlib.Core.Bool.{true, false, cond}
use mathlib.Core.Logic.{inl, inr, ⊎_elim}
use Prim.Native.Nat.{ℕ, zero, suc, ◌+◌, ◌^◌, ◌<◌, ◌≤◌}
use native.Mathlib.Omega.{arith}
use native.Mathlib.Nat.{not-suc-le-zero}
use native.Mathlib.Numerals.{add-one}
use native.Mathlib.Decide.{ℕ_discrete}
use lib.Bits.{bit_or}
use Rattle.automata.specs.Bits.{bit}
use Rattle.relaxation.specs.Inner.Wraps.{image_of}
use Rattle.automata.proofs.BitLaws.{one_bit}
use Rattle.automata.proofs.MaskTableLaws.{bit_union, no_bit}

module _ (f : ℕ → ℕ) (m : ℕ) where
  -- before the first state nothing is found
  pub image_none : 0 ≡ image_of f m 0
  unfolding image_of
  image_none = refl

  -- a turn at a state of the mask
  pub image_more : (r u i : ℕ) → u ≡ image_of f m r → bit m r ≡ true → i ≡ f r → bit_or u (2 ^ i) ≡ image_of f m (r + 1)
  unfolding image_of
  image_more r u i e h x = rw (add-one r, h, x, e) refl

  -- no state from r on below t is one of the mask
  pub image_skip_to : (t r u : ℕ) → r ≤ t → u ≡ image_of f m r → ((i : ℕ) → r ≤ i → i < t → bit m i ≡ false) → u ≡ image_of f m t
  unfolding image_of
  image_skip_to zero r u h e n = let d : r ≡ 0 = omega arith in rw d at e
  image_skip_to (suc t) r u h e n =
      elim (ℕ_discrete r (suc t)) [
        | yes d ↦ rw d at e
        | no d ↦ rw (n t (omega arith) (omega arith)) (image_skip_to t r u (omega arith) e (λ i a b. n i a (omega arith)))
      ]

  -- s is what f makes of a state below n in the mask
  pub record Image (n s : ℕ) : Type 0 where
    pub of : ℕ
    pub below : of < n
    pub has_it : bit m of ≡ true
    pub is : f of ≡ s

  one_more : (k s : ℕ) → (bit m k ≡ true) → f k ≡ s → Image (suc k) s
  one_more k s h e = record { of = k; below = omega arith; has_it = h; is = e }

  -- a state in the image is what f makes of a state of the mask
  pub image_of_lem : (n s : ℕ) → bit (image_of f m n) s ≡ true → Image n s
  unfolding image_of
  image_of_lem zero s h = absurd (no_bit s h)
  image_of_lem (suc k) s h =
      let before : bit (image_of f m k) s ≡ true → Image (suc k) s =
      λ x. let i = image_of_lem k s x in let l = i.below in record { of = i.of; below = omega arith; has_it = i.has_it; is = i.is } in
      let grown = bit_or (image_of f m k) (2 ^ f k) in
      (elim (bit m k) as (λ b. bit m k ≡ b → bit (cond b grown (image_of f m k)) s ≡ true → Image (suc k) s) [
        | true ↦ λ e x.
            ⊎_elim before (λ y. one_more k s e (sym ((one_bit (f k) s).0 y)))
            ((bit_union (image_of f m k) (2 ^ f k) s).0 x)
        | false ↦ λ e x. before x
      ])
      refl h

  -- what f makes of a state of the mask is in the image
  pub image_has : (n r : ℕ) → r < n → bit m r ≡ true → bit (image_of f m n) (f r) ≡ true
  unfolding image_of
  image_has zero r l h = absurd (not-suc-le-zero l)
  image_has (suc k) r l h =
      elim (ℕ_discrete r k) [
        | yes e ↦
            rw (rw e at h)
            ((bit_union (image_of f m k) (2 ^ f k) (f r)).1 (inr ((one_bit (f k) (f r)).1 (ap f e))))
        | no n ↦
            let before = image_has k r (omega arith) h in
            elim (bit m k) as (λ b. bit (cond b (bit_or (image_of f m k) (2 ^ f k)) (image_of f m k)) (f r) ≡ true) [
              | true ↦ (bit_union (image_of f m k) (2 ^ f k) (f r)).1 (inl before)
              | false ↦ before
            ]
      ]
