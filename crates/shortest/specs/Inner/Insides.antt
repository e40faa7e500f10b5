-- The goals of an element's inside, and of what follows the element, by the goals of the whole.
use Rattle.std.specs.Prelude.{◌≡◌, true, ◌↔◌, Option, None, Some, List, ℕ, suc, ◌<◌, length, get_or}
use Rattle.words.specs.Tag.{codes, IsCode}
use Rattle.automata.specs.Bits.{bit}
use Rattle.automata.specs.Target.{Target}
use Rattle.automata.specs.Inner.FormState.{IsFormState}
use Rattle.replies.specs.Inner.Links.{link_index}
use Rattle.replies.specs.Inner.Relation.{Related}
use Rattle.relaxation.specs.Inner.Pairs.{pair_count, pair_of, form_part, target_part}
use Rattle.relaxation.specs.Inner.PairSet.{Member}
use Rattle.relaxation.specs.Inner.Lengths.{length_of, length_cap}
use Rattle.shortest.specs.Inner.Wanted.{goal_count}
use Rattle.shortest.specs.Inner.Stops.{GoesOver, StopAt}

-- `Stopped p y` says that y is a stop of form state p, at target state q.
module _ (lengths : List ℕ) (Stopped : ℕ → ℕ → Type 0) (q : ℕ) where
  -- an element of e elements leads from p to one of its stops: to a form state that a link has, and to target state t
  pub record EndsAt (p link t e : ℕ) : Type 0 where
    pub end : ℕ
    pub end_state : IsFormState end
    pub linked : bit link end ≡ true
    pub stop : Stopped p (pair_of end t)
    pub long : length_of lengths (pair_of p q) (pair_of end t) ≡ e

  -- from some form state, where the element has code c and its inside leads from a to b
  abbrev pub SomeElement : List ℕ → ℕ → ℕ → ℕ → ℕ → ℕ → Type 0
  SomeElement links c a b t e = (p : ℕ) × IsFormState p × EndsAt p (get_or links (link_index c p a b) 0) t e

  -- y is a goal for form state a of the inside of an element of code c
  pub record InsideGoal (A : Target) (links : List ℕ) (c a y : ℕ) : Type 0 where
    pub below : target_part y < A.states
    pub counted : length_of lengths (pair_of a (A.open_to q c)) y < length_cap
    pub element : SomeElement links c a (form_part y) (A.close_to (target_part y) q c)
        (suc (length_of lengths (pair_of a (A.open_to q c)) y))

-- no code below c has a goal for its inside
abbrev pub NoneBefore : (ℕ → ℕ → Type 0) → Target → List ℕ → List ℕ → ℕ → ℕ → Type 0
NoneBefore Stopped A links lengths q c =
    (d a y : ℕ) → d < c → IsFormState a → y < pair_count → ¬ InsideGoal lengths Stopped q A links d a y

-- c is the first code that has a goal for its inside, and a table has these goals
pub record FirstCode (Stopped : ℕ → ℕ → Type 0) (A : Target) (links lengths : List ℕ) (q c : ℕ) (inside : List ℕ) : Type 0 where
  pub is_code : IsCode c
  pub none_before : NoneBefore Stopped A links lengths q c
  pub long : length inside ≡ goal_count
  pub exact : (a y : ℕ) → IsFormState a → y < pair_count → Member inside a y ↔ InsideGoal lengths Stopped q A links c a y
  pub some : (a : ℕ) × (y : ℕ) × IsFormState a × (y < pair_count) × Member inside a y

-- this code, or there is none
abbrev pub ChosenBy : (ℕ → ℕ → Type 0) → Target → List ℕ → List ℕ → ℕ → Option ℕ → List ℕ → Type 0
ChosenBy Stopped A links lengths q None inside = NoneBefore Stopped A links lengths q codes
ChosenBy Stopped A links lengths q (Some c) inside = FirstCode Stopped A links lengths q c inside

-- by the stops that the goals have
abbrev pub Chosen : Target → List ℕ → List ℕ → List ℕ → ℕ → Option ℕ → List ℕ → Type 0
Chosen A links lengths goals q c inside = ChosenBy (StopAt lengths goals q) A links lengths q c inside

-- z is a goal for form state s of what follows an element of e elements that relates form states and leads from target state q to t
pub record Onward (lengths goals : List ℕ) (q relation t e s z : ℕ) : Type 0 where
  pub from : ℕ
  pub from_state : IsFormState from
  pub related : Related relation from s
  pub goal : Member goals from z
  pub rest : GoesOver lengths (pair_of from q) (pair_of s t) z e

abbrev pub OnwardOf : List ℕ → List ℕ → ℕ → ℕ → ℕ → ℕ → ℕ → ℕ → Type 0
OnwardOf lengths goals q relation t e s z = IsFormState s × Onward lengths goals q relation t e s z
