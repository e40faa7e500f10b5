-- Offers from x to the pairs of one form state that a mask has, bit by bit: `value` says how much.
use mathlib.Core.Path.{◌≡◌, refl, sym, ◌∙◌, ap}
use mathlib.Core.Bool.{Bool, true, false, not, ◌&&◌, false≢true}
use mathlib.Core.Logic.{inl, inr, ⊎_elim}
use mathlib.Core.List.{List}
use Prim.Native.Nat.{ℕ, ◌+◌, ◌<◌, ◌≤◌}
use native.Mathlib.Omega.{arith}
use native.Mathlib.Decide.{ℕ_discrete, dec_lt}
use lib.Bits.{bit_or, bit_xor}
use lib.ListN.{get_or}
use Rattle.automata.specs.Bits.{bit}
use Rattle.automata.specs.TargetBody.{most_states}
use Rattle.automata.specs.ReplyBody.{most_reply_states}
use Rattle.automata.specs.Inner.NextIn.{NextIn}
use Rattle.automata.proofs.BitLaws.{bit_left}
use Rattle.relaxation.specs.Inner.Pairs.{pair_count, pair_of, form_part, target_part}
use Rattle.relaxation.specs.Inner.PairSet.{mask_index, Member}
use Rattle.relaxation.specs.Inner.Lengths.{length_of, capped}
use Rattle.relaxation.specs.Inner.Relaxation.{Found, Relaxed, One}
use Rattle.relaxation.proofs.PairLaws.{pair_is, form_of_lem, target_of_lem, word_member}
use Rattle.relaxation.proofs.Relaxing.{relaxed_then, relaxed_as}

-- the sums over y, with the lengths of l
abbrev pub sum_over : List ℕ → ℕ → ℕ → ℕ → ℕ
sum_over l x y z = capped (length_of l x y + length_of l y z)

-- the bits below s
abbrev pub BitsRelaxed : (ℕ → ℕ) → ℕ → ℕ → ℕ → ℕ → ℕ → ℕ → ℕ → Type 0
BitsRelaxed value x r mask s x' z' k' =
    (x' ≡ x) × (form_part z' ≡ r) × (target_part z' < s) × (bit mask (target_part z') ≡ true) × (k' ≡ value z')

-- all of them
abbrev pub AllBits : (ℕ → ℕ) → ℕ → ℕ → ℕ → ℕ → ℕ → ℕ → Type 0
AllBits value x r mask x' z' k' = (x' ≡ x) × (form_part z' ≡ r) × (bit mask (target_part z') ≡ true) × (k' ≡ value z')

-- the bits of a mask that are not held
abbrev pub left_of : ℕ → ℕ → ℕ
left_of h m = bit_xor (bit_or h m) h

-- such a bit is one of the mask and not held, and one of the mask that is no such bit is held
pub is_left : (h m i : ℕ) → bit (left_of h m) i ≡ true → (bit m i ≡ true) × (bit h i ≡ false)
is_left h m i e = go (bit h i) (bit m i) (sym (bit_left h m i) ∙ e)
  where
    go : (x y : Bool) → (y && not x) ≡ true → (y ≡ true) × (x ≡ false)
    go false true d = (refl, refl)
    go true true d = absurd (false≢true d)
    go x false d = absurd (false≢true d)

not_left : (h m i : ℕ) → bit m i ≡ true → bit (left_of h m) i ≡ false → bit h i ≡ true
not_left h m i e d = go (bit h i) (bit m i) e (sym (bit_left h m i) ∙ d)
  where
    go : (x y : Bool) → y ≡ true → (y && not x) ≡ false → x ≡ true
    go true y e d = refl
    go false true e d = sym d
    go false false e d = e

module _ {next : ℕ} (value : ℕ → ℕ) (x r mask : ℕ) where
  module _ {f g : Found} (s : ℕ) (hs : s < most_states) (u : Relaxed next (BitsRelaxed value x r mask s) f g) where
    -- no length to the pair of a later bit was touched
    pub bits_ahead : (y : ℕ) → y < pair_count → r < most_reply_states →
        length_of g.lengths y (pair_of r s) ≡ length_of f.lengths y (pair_of r s)
    bits_ahead y hy hr =
        ⊎_elim (λ e. e) (λ w. let o = w.candidate in let t = target_of_lem r s hs in absurd (omega arith))
        (u.falls y (pair_of r s) hy (omega arith))

    -- bit s is a candidate
    pub bits_more : {h : Found} → bit mask s ≡ true → Relaxed next (One x (pair_of r s) (value (pair_of r s))) g h →
        Relaxed next (BitsRelaxed value x r mask (s + 1)) f h
    bits_more m v =
        relaxed_then u v (λ x' z' k' hx hz (a, b, c, d, e). (a, b, omega arith, d, e))
        (λ x' z' k' hx hz (a, b, c).
        let o = target_of_lem r s hs in
        (a, ap form_part b ∙ form_of_lem r s hs, rw b (omega arith), rw b (rw o m), rw b c))
        (λ x' z' k' hx hz (a, b, c, d, e).
        elim (ℕ_discrete (target_part z') s) [
          | yes i ↦ let p = pair_is r s z' b i in inr (inl (a, p, rw p at e))
          | no i ↦ inl (a, b, omega arith, d, e)
        ])

  -- no bit from s on below t is a candidate: what the mask has of them is known
  pub bits_skip_to : {f g : Found} (s t : ℕ) → s ≤ t → ((i : ℕ) → s ≤ i → i < t → bit mask i ≡ true → Member g.known x (pair_of r i)) →
      Relaxed next (BitsRelaxed value x r mask s) f g → Relaxed next (BitsRelaxed value x r mask t) f g
  bits_skip_to s t h m u =
      relaxed_as u (λ x' z' k' hx hz (a, b, c, d, e). (a, b, omega arith, d, e))
      (λ x' z' k' hx hz (a, b, c, d, e).
      elim (dec_lt (target_part z') s) [
        | yes l ↦ inl (a, b, l, d, e)
        | no l ↦ let p = pair_is r (target_part z') z' b refl in inr (rw (a, p) (m (target_part z') (omega arith) c d))
      ])

  -- t is the next bit of the mask that was not known
  pub bits_next : {f g : Found} (s t : ℕ) → NextIn (left_of (get_or f.known (mask_index x r) 0) mask) s t →
      Relaxed next (BitsRelaxed value x r mask s) f g → Relaxed next (BitsRelaxed value x r mask t) f g
  bits_next {f} s t n u =
      let w = n.within in
      bits_skip_to s t n.from_on
      (λ i a b m. u.kept x (pair_of r i) (word_member f.known x r i (omega arith) (not_left _ mask i m (n.none i a b)))) u

  -- all bits were passed
  pub bits_all : {f g : Found} → Relaxed next (BitsRelaxed value x r mask most_states) f g → Relaxed next (AllBits value x r mask) f g
  bits_all u =
      relaxed_as u (λ x' z' k' hx hz (a, b, c, d, e). (a, b, d, e)) (λ x' z' k' hx hz (a, b, d, e). inl (a, b, omega arith, d, e))
