-- Laws of stops: loops that find stops and gather their target states.
use mathlib.Core.Path.{◌≡◌}
use mathlib.Core.Bool.{true}
use mathlib.Core.Logic.{inl, inr}
use mathlib.Core.List.{List}
use Prim.Native.Nat.{ℕ, ◌+◌, ◌<◌}
use native.Mathlib.Omega.{arith}
use native.Mathlib.Decide.{ℕ_discrete}
use lib.Bits.{bit_or}
use lib.ListN.{get_or}
use Rattle.words.proofs.Truth.{or_either}
use Rattle.automata.specs.Bits.{bit}
use Rattle.automata.specs.Inner.FormState.{IsFormState}
use Rattle.automata.proofs.BitLaws.{bit_of_or}
use Rattle.relaxation.specs.Inner.Pairs.{pair_count, pair_of}
use Rattle.relaxation.specs.Inner.PairSet.{Member, Gains}
use Rattle.relaxation.proofs.GainsLaws.{Passed, passed_more, passed_skip}
use Rattle.shortest.specs.Inner.Stops.{Stop, StopAt}

-- the stops of p, with x its pair, in the turns of a loop over the pairs y
abbrev pub StopOf : List ℕ → List ℕ → ℕ → ℕ → ℕ → ℕ → Type 0
StopOf lengths goals p x p' y = (p' ≡ p) × Stop lengths goals p x y

abbrev pub Stopped : List ℕ → List ℕ → ℕ → ℕ → ℕ → ℕ → ℕ → Type 0
Stopped lengths goals p x = Passed (λ p' y. y) (StopOf lengths goals p x)

-- the stops at target state q, in the turns of a loop over the form states
abbrev pub StoppedAt : List ℕ → List ℕ → ℕ → ℕ → ℕ → ℕ → Type 0
StoppedAt lengths goals q = Passed (λ p y. p) (StopAt lengths goals q)

module _ (lengths goals : List ℕ) (q : ℕ) {t u : List ℕ} (p : ℕ) (a : Gains t u (StoppedAt lengths goals q p)) where
  pub stopped_at_more : {v : List ℕ} → IsFormState p → Gains u v (StopOf lengths goals p (pair_of p q)) →
      Gains t v (StoppedAt lengths goals q (p + 1))
  stopped_at_more h b =
      passed_more (λ p' y. p') (StopAt lengths goals q) p a b (λ p' y hp hy (e, s). (e, rw e (h, s)))
      (λ p' y hp hy e (_, s). (e, rw e at s))

  -- a form state without a goal has no stop
  pub stopped_at_skip : ¬ ((z : ℕ) × (z < pair_count) × Member goals p z) → Gains t u (StoppedAt lengths goals q (p + 1))
  stopped_at_skip none =
      passed_skip (λ p' y. p') (StopAt lengths goals q) p a
      (λ p' y hp hy e (_, s). let (z, hz, g, _) = s.on_way in none (z, hz, rw e at g))

-- a mask has the target states of the first n masks
abbrev pub StatesBelow : List ℕ → ℕ → ℕ → Type 0
StatesBelow stops n m = (i s : ℕ) → i < n → bit (get_or stops i 0) s ≡ true → bit m s ≡ true

pub states_more : (stops : List ℕ) (n m : ℕ) → StatesBelow stops n m → StatesBelow stops (n + 1) (bit_or m (get_or stops n 0))
states_more stops n m below i s h b =
    rw (bit_of_or m (get_or stops n 0) s)
    ((or_either (bit m s) (bit (get_or stops n 0) s)).1
    (elim (ℕ_discrete i n) [ yes e ↦ inr (rw e at b) | no d ↦ inl (below i s (omega arith) b) ]))
