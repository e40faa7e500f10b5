-- Laws of the goals of what follows an element, in the turns of a loop over the goals, and of one over the pairs of form states.
use mathlib.Core.Path.{◌≡◌, refl}
use mathlib.Core.Bool.{true}
use mathlib.Core.Logic.{inl, inr}
use mathlib.Core.List.{List}
use Prim.Native.Nat.{ℕ, ◌+◌, ◌/◌, ◌%◌, ◌<◌}
use native.Mathlib.Omega.{arith}
use native.Mathlib.Decide.{ℕ_discrete}
use Rattle.automata.specs.Bits.{bit}
use Rattle.automata.specs.ReplyBody.{most_reply_states}
use Rattle.automata.specs.Inner.FormState.{IsFormState}
use Rattle.replies.specs.Inner.Links.{pair_index}
use Rattle.relaxation.specs.Inner.Pairs.{pair_of}
use Rattle.relaxation.specs.Inner.PairSet.{Member, Gains}
use Rattle.relaxation.specs.Inner.Lengths.{length_of}
use Rattle.relaxation.proofs.GainsLaws.{Passed, gains_then, gains_as}
use Rattle.shortest.specs.Inner.Wanted.{goal_count}
use Rattle.shortest.specs.Inner.Insides.{Onward, OnwardOf}

-- the goals of p whose shortest way from x goes on from y after e elements are goals of s
abbrev pub Keeps : List ℕ → List ℕ → ℕ → ℕ → ℕ → ℕ → ℕ → ℕ → ℕ → Type 0
Keeps lengths goals p x s y e s' z = (s' ≡ s) × Member goals p z × (length_of lengths x z ≡ e + length_of lengths y z)

-- of these the ones below n
abbrev pub Kept : List ℕ → List ℕ → ℕ → ℕ → ℕ → ℕ → ℕ → ℕ → ℕ → ℕ → Type 0
Kept lengths goals p x s y e = Passed (λ s' z. z) (Keeps lengths goals p x s y e)

-- where a pair of form states stands, and the pair of a place
first_of : (a b : ℕ) → IsFormState b → pair_index a b / most_reply_states ≡ a
first_of a b h = omega arith

second_of : (a b : ℕ) → IsFormState b → pair_index a b % most_reply_states ≡ b
second_of a b h = omega arith

pair_of_lem : (i : ℕ) → pair_index (i / most_reply_states) (i % most_reply_states) ≡ i
pair_of_lem i = omega arith

place_within : (a b : ℕ) → IsFormState a → IsFormState b → pair_index a b < goal_count
place_within a b ha hb = omega arith

module _ (lengths goals : List ℕ) (q relation t e : ℕ) where
  -- by way of the first n pairs of form states
  abbrev pub OnwardBelow : ℕ → ℕ → ℕ → Type 0
  OnwardBelow n s z = IsFormState s × (o : Onward lengths goals q relation t e s z) × (pair_index o.from s < n)

  module _ {old next : List ℕ} (i : ℕ) (a : Gains old next (OnwardBelow i)) where
    pub onward_skip : ¬ (bit relation i ≡ true) → Gains old next (OnwardBelow (i + 1))
    onward_skip n =
        gains_as a (λ s z hs hz (h, o, l). (h, o, omega arith))
        (λ s z hs hz (h, o, l).
        elim (ℕ_discrete (pair_index o.from s) i) [ yes d ↦ absurd (n (rw d at o.related)) | no d ↦ (h, o, omega arith) ])

    pub onward_more : {new : List ℕ} → i < goal_count → bit relation i ≡ true →
        Gains next new (Keeps lengths goals (i / most_reply_states) (pair_of (i / most_reply_states) q) (i % most_reply_states)
        (pair_of (i % most_reply_states) t) e) → Gains old new (OnwardBelow (i + 1))
    onward_more hi r b =
        gains_then a b (λ s z hs hz (h, o, l). (h, o, omega arith))
        (λ s z hs hz (d, g, w). rw d (
          omega arith,
          record { from = i / most_reply_states; from_state = omega arith; related = rw (pair_of_lem i) r; goal = g; rest = w },
          omega arith,
        ))
        (λ s z hs hz (h, o, l).
        elim (ℕ_discrete (pair_index o.from s) i) [
          | yes d ↦ inr (inl (rw (← d, first_of o.from s h, second_of o.from s h) (refl, o.goal, o.rest)))
          | no d ↦ inl (h, o, omega arith)
        ])

  pub onward_all : {old new : List ℕ} → Gains old new (OnwardBelow goal_count) → Gains old new (OnwardOf lengths goals q relation t e)
  onward_all a = gains_as a (λ s z hs hz (h, o, l). (h, o)) (λ s z hs hz (h, o). (h, o, place_within o.from s o.from_state h))
