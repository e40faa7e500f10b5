-- Stops: pairs on a shortest way to a goal, where a first element may end.
use Rattle.std.specs.Prelude.{◌≡◌, true, List, ℕ, ◌+◌, ◌<◌, get_or}
use Rattle.automata.specs.Bits.{bit}
use Rattle.automata.specs.Inner.FormState.{IsFormState}
use Rattle.relaxation.specs.Inner.Pairs.{pair_count, pair_of}
use Rattle.relaxation.specs.Inner.PairSet.{Member}
use Rattle.relaxation.specs.Inner.Lengths.{length_of, length_cap}
use Rattle.shortest.specs.Inner.Wanted.{goal_count}

-- a shortest way from x to z goes on from y after e elements
abbrev pub GoesOver : List ℕ → ℕ → ℕ → ℕ → ℕ → Type 0
GoesOver lengths x y z e = length_of lengths x z ≡ e + length_of lengths y z

-- y is on a shortest way from x to a goal of p
abbrev pub OnWay : List ℕ → List ℕ → ℕ → ℕ → ℕ → Type 0
OnWay lengths goals p x y =
    (z : ℕ) × (z < pair_count) × Member goals p z × GoesOver lengths x y z (length_of lengths x y)

-- and something leads from x to y, but not nothing
pub record Stop (lengths goals : List ℕ) (p x y : ℕ) : Type 0 where
  pub some : 0 < length_of lengths x y
  pub counted : length_of lengths x y < length_cap
  pub on_way : OnWay lengths goals p x y

-- of form state p, at target state q
abbrev pub StopAt : List ℕ → List ℕ → ℕ → ℕ → ℕ → Type 0
StopAt lengths goals q p y = IsFormState p × Stop lengths goals p (pair_of p q) y

-- a mask has the target state of every stop
abbrev pub StatesOf : List ℕ → ℕ → Type 0
StatesOf stops m = (i s : ℕ) → i < goal_count → bit (get_or stops i 0) s ≡ true → bit m s ≡ true
