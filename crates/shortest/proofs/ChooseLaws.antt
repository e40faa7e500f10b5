-- The search for the first code whose inside has a goal: what is known after the codes passed, and the same by other words for a stop.
use mathlib.Core.Path.{◌≡◌, sym, ◌∙◌}
use mathlib.Core.Bool.{true, true≢false}
use mathlib.Core.Logic.{◌↔◌, ⊎_elim}
use mathlib.Core.List.{List}
use Rattle.std.specs.Prelude.{Option, None, Some}
use Prim.Native.Nat.{ℕ, ◌+◌, ◌/◌, ◌%◌, ◌<◌, ◌≤◌}
use native.Mathlib.Omega.{arith}
use native.Mathlib.Nat.{not-suc-le-zero}
use native.Mathlib.Decide.{ℕ_discrete}
use lib.ListN.{length, get_or, replicate, length-replicate}
use Rattle.words.specs.Tag.{codes}
use Rattle.automata.specs.Bits.{bit}
use Rattle.automata.specs.Target.{Target, Closed}
use Rattle.automata.specs.TargetBody.{most_states}
use Rattle.automata.specs.ReplyBody.{most_reply_states}
use Rattle.automata.specs.Inner.FormState.{IsFormState}
use Rattle.automata.proofs.BitLaws.{bit_zero}
use Rattle.automata.proofs.MaskTableLaws.{no_row, zeros_empty}
use Rattle.relaxation.specs.Inner.Pairs.{pair_count, pair_of, form_part, target_part}
use Rattle.relaxation.specs.Inner.PairSet.{mask_index, Member, Gains}
use Rattle.relaxation.proofs.PairLaws.{pair_below, word_member}
use Rattle.shortest.specs.Inner.Wanted.{goal_count}
use Rattle.shortest.specs.Inner.Stops.{StopAt, StatesOf}
use Rattle.shortest.specs.Inner.Insides.{InsideGoal, NoneBefore, FirstCode, ChosenBy}

-- a table has no member
abbrev pub NoMember : List ℕ → Type 0
NoMember t = (a y : ℕ) → IsFormState a → y < pair_count → ¬ Member t a y

-- words that are 0 have none
no_member_zeros : NoMember (replicate goal_count 0)
no_member_zeros a y ha hy = no_row (replicate goal_count 0) (zeros_empty goal_count) (mask_index a (form_part y)) (target_part y)

-- a bit of a word is a member
abbrev pub SomeMember : List ℕ → Type 0
SomeMember t = (a : ℕ) × (y : ℕ) × IsFormState a × (y < pair_count) × Member t a y

pub bit_member : (t : List ℕ) (i s : ℕ) → i < goal_count → s < most_states → bit (get_or t i 0) s ≡ true → SomeMember t
bit_member t i s h l m =
    let a : ℕ = i / most_reply_states in
    let b : ℕ = i % most_reply_states in
    let e : i ≡ mask_index a b = omega arith in
    (a, pair_of b s, omega arith, omega arith, word_member t a b s l (rw e at m))

-- sets that had no member have just those that they gained
gains_exact : {N : ℕ → ℕ → Type 0} {t u : List ℕ} → NoMember t → Gains t u N → (a y : ℕ) → IsFormState a → y < pair_count →
    Member u a y ↔ N a y
gains_exact bare g a y ha hy = (
  λ m. ⊎_elim (λ old. absurd (bare a y ha hy old)) (λ new. new) (g.either a y (omega arith) hy m),
  λ new. g.has_it a y (omega arith) hy new,
)

module _ (Stopped : ℕ → ℕ → Type 0) (A : Target) (links lengths : List ℕ) (q : ℕ) where
  -- the codes below c have no goal, and the sets have no member
  pub record NoneYet (c : ℕ) (inside : List ℕ) : Type 0 where
    pub none_before : NoneBefore Stopped A links lengths q c
    pub long : length inside ≡ goal_count
    pub empty : NoMember inside

  pub none_yet : NoneYet 0 (replicate goal_count 0)
  none_yet =
      record {
        none_before = λ d a y l. absurd (not-suc-le-zero l);
        long = length-replicate {A = ℕ} goal_count 0;
        empty = no_member_zeros;
      }

  -- the goals of code c come into the table
  module _ (c : ℕ) {inside inside' : List ℕ} (b : NoneYet c inside)
      (g : Gains inside inside' (λ a y. IsFormState a × InsideGoal lengths Stopped q A links c a y)) where
    exact_members : (a y : ℕ) → IsFormState a → y < pair_count → Member inside' a y ↔ InsideGoal lengths Stopped q A links c a y
    exact_members a y ha hy =
        let e = gains_exact b.empty g a y ha hy in
        (λ m. (e.0 m).1, λ goal. e.1 (ha, goal))

    pub none_more : NoMember inside' → NoneYet (c + 1) inside'
    none_more bare =
        record {
          none_before = λ d a y l ha hy goal.
              elim (ℕ_discrete d c) [
                | yes e ↦ bare a y ha hy ((exact_members a y ha hy).1 (rw e at goal))
                | no f ↦ b.none_before d a y (omega arith) ha hy goal
              ];
          long = g.long ∙ b.long;
          empty = bare;
        }

    pub some_chosen : c < codes → SomeMember inside' → FirstCode Stopped A links lengths q c inside'
    some_chosen h member =
        record {
          is_code = h;
          none_before = b.none_before;
          long = g.long ∙ b.long;
          exact = exact_members;
          some = member;
        }

-- The same by other words for a stop: only pairs of a form state and a target state are asked for.
module _ (A : Target) (closed : Closed A) (few : A.states ≤ most_states) (links lengths : List ℕ) (q : ℕ) where
  goal_as : {S S' : ℕ → ℕ → Type 0} → ((p y : ℕ) → IsFormState p → y < pair_count → S p y → S' p y) → (c a y : ℕ) →
      InsideGoal lengths S q A links c a y → InsideGoal lengths S' q A links c a y
  goal_as to c a y g =
      let (p, hp, e) = g.element in
      let t : ℕ = A.close_to (target_part y) q c in
      let ht : t < A.states = closed.close_below (target_part y) q c in
      record {
        below = g.below;
        counted = g.counted;
        element = (
          p,
          hp,
          record {
            end = e.end;
            end_state = e.end_state;
            linked = e.linked;
            stop = to p (pair_of e.end t) hp (pair_below e.end t e.end_state (omega arith)) e.stop;
            long = e.long;
          },
        );
      }

  module _ (S S' : ℕ → ℕ → Type 0) (both : (p y : ℕ) → IsFormState p → y < pair_count → S p y ↔ S' p y) where
    to : (c a y : ℕ) → InsideGoal lengths S q A links c a y → InsideGoal lengths S' q A links c a y
    to = goal_as {S = S} {S' = S'} (λ p y hp hy. (both p y hp hy).0)

    back : (c a y : ℕ) → InsideGoal lengths S' q A links c a y → InsideGoal lengths S q A links c a y
    back = goal_as {S = S'} {S' = S} (λ p y hp hy. (both p y hp hy).1)

    chosen_as : (c : Option ℕ) (inside : List ℕ) → ChosenBy S A links lengths q c inside → ChosenBy S' A links lengths q c inside
    chosen_as None inside none_before = λ d a y l ha hy g. none_before d a y l ha hy (back d a y g)
    chosen_as (Some c) inside h =
        record {
          is_code = h.is_code;
          none_before = λ d a y l ha hy g. h.none_before d a y l ha hy (back d a y g);
          long = h.long;
          exact = λ a y ha hy. (
            λ m. to c a y ((h.exact a y ha hy).0 m),
            λ g. (h.exact a y ha hy).1 (back c a y g),
          );
          some = h.some;
        }

  -- a table has the stops of some goals
  module _ (goals stops : List ℕ) (found : Gains (replicate goal_count 0) stops (StopAt lengths goals q)) where
    stops_are : (p y : ℕ) → IsFormState p → y < pair_count → Member stops p y ↔ StopAt lengths goals q p y
    stops_are = gains_exact no_member_zeros found

    pub stops_chosen : (c : Option ℕ) (inside : List ℕ) → ChosenBy (Member stops) A links lengths q c inside →
        ChosenBy (StopAt lengths goals q) A links lengths q c inside
    stops_chosen = chosen_as (Member stops) (StopAt lengths goals q) stops_are

    -- no target state is that of a stop
    pub no_stop_chosen : StatesOf stops 0 → NoneBefore (StopAt lengths goals q) A links lengths q codes
    no_stop_chosen states d a y l ha hy g = (goal_as {S' = λ p y. ⊥} no_stop d a y g).element.2.stop
      where
        no_stop : (p y : ℕ) → IsFormState p → y < pair_count → ¬ StopAt lengths goals q p y
        no_stop p y hp hy s =
            let has = states (mask_index p (form_part y)) (target_part y) (omega arith) ((stops_are p y hp hy).1 s) in
            true≢false (sym has ∙ bit_zero (target_part y))
