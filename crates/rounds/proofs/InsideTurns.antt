-- The loops over the insides of elements: the form states where an inside that is new may end, and the pairs with nothing between them.
use mathlib.Core.Path.{◌≡◌}
use mathlib.Core.List.{List}
use Prim.Native.Nat.{ℕ, ◌+◌, ◌^◌, ◌<◌, ◌≤◌}
use native.Mathlib.Omega.{arith}
use lib.ListN.{get_or}
use Rattle.automata.specs.Target.{Target}
use Rattle.automata.specs.ReplyBody.{most_reply_states}
use Rattle.automata.proofs.MaskTableLaws.{no_bit}
use Rattle.relaxation.specs.Inner.Pairs.{pair_count, form_part, target_part}
use Rattle.relaxation.specs.Inner.PairSet.{mask_index}
use Rattle.relaxation.specs.Inner.Relaxation.{Relaxed, AroundAny}
use Rattle.relaxation.specs.declared.found.Found.{Found}
use Rattle.rounds.specs.Inner.Used.{UseInside}
use Rattle.rounds.specs.Inner.Begun.{EmptyInside}
use Rattle.relaxation.proofs.RelaxTurns.{Passed, turns_more, turns_skip, turns_all}

-- the form states where an inside that is new may end
module _ (A : Target) (links fresh : List ℕ) (next x : ℕ) where
  pub InsideTurn : ℕ → ℕ → ℕ → ℕ → Type 0
  InsideTurn b x' z' k' = AroundAny A links x b (get_or fresh (mask_index x b) 0) next x' z' k'

  module _ {f g : Found} (b : ℕ) (u : Relaxed next (Passed InsideTurn b) f g) where
    pub inside_more : {h : Found} → Relaxed next (AroundAny A links x b (get_or fresh (mask_index x b) 0) next) g h →
        Relaxed next (Passed InsideTurn (b + 1)) f h
    unfolding InsideTurn
    inside_more v = turns_more InsideTurn b u v (λ x' z' k' hx hz t. t) (λ x' z' k' hx hz t. t)

    pub inside_skip : get_or fresh (mask_index x b) 0 ≡ 0 → Relaxed next (Passed InsideTurn (b + 1)) f g
    unfolding InsideTurn
    inside_skip e = turns_skip InsideTurn b u (λ x' z' k' hx hz (c, t). no_bit t.inside (rw e at t.has_it))

  pub inside_all : {f g : Found} → Relaxed next (Passed InsideTurn most_reply_states) f g →
      Relaxed next (UseInside A links fresh next x) f g
  unfolding InsideTurn
  inside_all u = u

-- the pairs, each as an inside that is empty
module _ (A : Target) (links : List ℕ) where
  pub EmptyTurn : ℕ → ℕ → ℕ → ℕ → Type 0
  EmptyTurn y x' z' k' = (target_part y < A.states) × AroundAny A links y (form_part y) (2 ^ target_part y) 1 x' z' k'

  module _ {f g : Found} (y : ℕ) (u : Relaxed 1 (Passed EmptyTurn y) f g) where
    pub empty_more : {h : Found} (m : ℕ) → target_part y < A.states → m ≡ 2 ^ target_part y →
        Relaxed 1 (AroundAny A links y (form_part y) m 1) g h → Relaxed 1 (Passed EmptyTurn (y + 1)) f h
    unfolding EmptyTurn
    empty_more m l e v = turns_more EmptyTurn y u (rw e at v) (λ x' z' k' hx hz t. (l, t)) (λ x' z' k' hx hz (d, t). t)

    pub empty_skip : A.states ≤ target_part y → Relaxed 1 (Passed EmptyTurn (y + 1)) f g
    unfolding EmptyTurn
    empty_skip n = turns_skip EmptyTurn y u (λ x' z' k' hx hz (d, t). omega arith)

  pub empty_all : {f g : Found} → Relaxed 1 (Passed EmptyTurn pair_count) f g → Relaxed 1 (EmptyInside A links pair_count) f g
  unfolding EmptyTurn
  empty_all u =
      turns_all EmptyTurn pair_count u (λ x' z' k' y hx hz l (d, t). (y, l, d, t)) (λ x' z' k' hx hz (y, l, d, t). (y, l, (d, t)))
