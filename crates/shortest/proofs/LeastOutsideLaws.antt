-- The least length out of a set, target state by target state, and the goals that have it, by the start and the mask of a body.
use mathlib.Core.Path.{◌≡◌, refl, sym, ◌∙◌}
use mathlib.Core.Bool.{Bool, true, true≢false}
use mathlib.Core.Logic.{inl, inr, ⊎_elim}
use mathlib.Core.List.{List}
use Prim.Native.Nat.{ℕ, min, ◌+◌, ◌<◌, ◌≤◌}
use native.Mathlib.Omega.{arith}
use native.Mathlib.Decide.{ℕ_discrete, dec_le}
use Rattle.automata.specs.Bits.{bit}
use Rattle.automata.specs.TargetBody.{most_states}
use Rattle.automata.specs.ReplyBody.{most_reply_states}
use Rattle.relaxation.specs.Inner.Pairs.{pair_count, pair_of, form_part, target_part}
use Rattle.relaxation.specs.Inner.Lengths.{length_of, LeastOf}
use Rattle.lengths.specs.Inner.FormLengths.{LeastOver}
use Rattle.relaxation.proofs.PairLaws.{form_of_lem, target_of_lem, pair_is, pair_below}
use Rattle.shortest.specs.Inner.First.{Outside}
use Rattle.shortest.specs.Inner.Spelled.{EndsOutside}

module _ (accepting : ℕ → Bool) (lengths : List ℕ) (x set : ℕ) where
  -- k is the least length to a pair outside the set with a target state below n
  abbrev pub LeastBelow : ℕ → ℕ → Type 0
  LeastBelow n = LeastOf (λ z. EndsOutside accepting set z × (target_part z < n)) (length_of lengths x) pair_count

  module _ (n k : ℕ) (b : LeastBelow n k) where
    -- no pair with target state n counts, or none of them is nearer
    pub below_keep : ((z : ℕ) → z < pair_count → EndsOutside accepting set z → target_part z ≡ n → k ≤ length_of lengths x z) →
        LeastBelow (n + 1) k
    below_keep none =
        record {
          below = λ z hz (e, h).
              elim (ℕ_discrete (target_part z) n) [ yes d ↦ none z hz e d | no d ↦ b.below z hz (e, omega arith) ];
          from = ⊎_elim inl (λ (z, hz, (e, h), d). inr (z, hz, (e, omega arith), d)) b.from;
        }

    pub below_skip : bit set n ≡ true → LeastBelow (n + 1) k
    below_skip h = below_keep (λ z hz (a, o) d. absurd (true≢false (sym h ∙ rw d at o)))

    module _ (found last : ℕ) (hn : n < most_states) (accepts : (p : ℕ) → bit last p ≡ accepting p)
        (o : LeastOver lengths x last n most_reply_states found) where
      least_there : (z : ℕ) → z < pair_count → EndsOutside accepting set z → target_part z ≡ n → found ≤ length_of lengths x z
      least_there z hz (a, _) d =
          let e = pair_is (form_part z) n z refl d in
          rw (sym e) at (o.below (form_part z) (omega arith) (accepts (form_part z) ∙ a))

      below_farther : k ≤ found → LeastBelow (n + 1) k
      below_farther h = below_keep (λ z hz e d. let l = least_there z hz e d in omega arith)

      below_nearer : Outside set n → found < k → LeastBelow (n + 1) found
      below_nearer out h =
          record {
            below = λ z hz (e, l).
                elim (ℕ_discrete (target_part z) n) [
                  | yes d ↦ least_there z hz e d
                  | no d ↦ let y = b.below z hz (e, omega arith) in omega arith
                ];
            from =
                ⊎_elim inl
                (λ (r, hr, a, d).
                let t = target_of_lem r n hn in
                inr (pair_of r n, pair_below r n hr hn, (rw (form_of_lem r n hn, t) (sym (accepts r) ∙ a, out), omega arith), d))
                o.from;
          }

      pub below_least : Outside set n → LeastBelow (n + 1) (min k found)
      below_least out =
          elim (dec_le k found) [
            | yes h ↦ let e : min k found ≡ k = omega arith in rw e (below_farther h)
            | no h ↦ let e : min k found ≡ found = omega arith in rw e (below_nearer out (omega arith))
          ]

-- the first goals by a start and a mask of accepting states
abbrev pub GoalBy : List ℕ → ℕ → ℕ → ℕ → ℕ → ℕ → ℕ → ℕ → Type 0
GoalBy lengths start q accepted set k p z =
    (p ≡ start) × EndsOutside (bit accepted) set z × (length_of lengths (pair_of start q) z ≡ k)
