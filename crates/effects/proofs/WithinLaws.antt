-- A set is within a goal exactly when the goal has every result.
use mathlib.Core.Path.{◌≡◌, sym, ◌∙◌}
use mathlib.Core.Bool.{true, false, false≢true}
use mathlib.Core.List.{List}
use Prim.Native.Nat.{ℕ, ◌^◌, ◌<◌}
use native.Mathlib.Omega.{arith}
use native.Mathlib.Decide.{dec_lt, ℕ_discrete}
use borrow.Author.Tests.{eq-eqb, ne_eqb}
use lib.Bits.{bit_or}
use lib.Dec.{eqb}
use Rattle.words.specs.Inner.All.{all}
use Rattle.words.proofs.ListLaws.{all_picked, picked_all}
use Rattle.words.proofs.Truth.{not_true}
use Rattle.automata.specs.Bits.{bit}
use Rattle.automata.specs.TargetBody.{most_states}
use Rattle.automata.proofs.BitLaws.{bit_beyond, within_bits, bits_within}
use Rattle.effects.specs.Inner.Lent.{set_in, results}

module _ (sets : List ℕ) (c q goal : ℕ) where
  abbrev set : ℕ
  set = set_in sets c q

  within_all : bit_or set goal ≡ goal → all (bit goal) (results sets c q) ≡ true
  unfolding results
  within_all e = all_picked (bit set) (bit goal) 0 most_states (within_bits set goal e)

  without_all : set < 2 ^ most_states → goal < 2 ^ most_states → (bit_or set goal ≡ goal → ⊥) →
      all (bit goal) (results sets c q) ≡ false
  unfolding results
  without_all hm hg n =
      not_true (all (bit goal) (results sets c q)) (λ t. n (bits_within most_states set goal hm hg (λ x k. elim (dec_lt x most_states) [
        | yes l ↦ picked_all (bit set) (bit goal) 0 most_states t x (omega arith) l k
        | no l ↦ absurd (false≢true (sym (bit_beyond most_states set x hm (omega arith)) ∙ k))
      ])))

  pub within_tested : set < 2 ^ most_states → goal < 2 ^ most_states → eqb (bit_or set goal) goal ≡ all (bit goal) (results sets c q)
  within_tested hm hg =
      elim (ℕ_discrete (bit_or set goal) goal) [
        | yes e ↦ eq-eqb (bit_or set goal) goal e ∙ sym (within_all e)
        | no n ↦ ne_eqb (bit_or set goal) goal n ∙ sym (without_all hm hg n)
      ]
