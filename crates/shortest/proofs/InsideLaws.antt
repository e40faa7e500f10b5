-- The goals of an element's inside: where an element may end, which target states it closes to, and what the loops over them find.
use mathlib.Core.Path.{◌≡◌, refl, sym, ◌∙◌, ap}
use mathlib.Core.Bool.{true, false, true≢false}
use mathlib.Core.List.{List}
use Prim.Native.Nat.{ℕ, ◌+◌, ◌/◌, ◌%◌, ◌<◌, ◌≤◌}
use native.Mathlib.Omega.{arith}
use native.Mathlib.Numerals.{add-one}
use native.Mathlib.Decide.{dec_lt}
use Rattle.automata.specs.Bits.{bit}
use Rattle.automata.specs.Target.{Target}
use Rattle.automata.specs.TargetBody.{most_states}
use Rattle.automata.specs.ReplyBody.{most_reply_states}
use Rattle.automata.specs.Inner.FormState.{IsFormState}
use Rattle.automata.specs.Inner.NextIn.{NextIn}
use Rattle.automata.proofs.BitLaws.{bit_zero, bit_beyond}
use Rattle.replies.specs.Inner.Links.{pair_index}
use Rattle.relaxation.specs.Inner.Pairs.{pair_of, form_part, target_part}
use Rattle.relaxation.specs.Inner.PairSet.{mask_index, Member, Gains}
use Rattle.relaxation.specs.Inner.Lengths.{length_of, length_cap}
use Rattle.relaxation.specs.Inner.Wraps.{SomeLink}
use Rattle.relaxation.proofs.GainsLaws.{Passed, passed_more, passed_skip}
use Rattle.relaxation.proofs.PairLaws.{form_of_lem, target_of_lem, pair_is, member_word}
use Rattle.shortest.specs.Inner.Wanted.{goal_count}
use Rattle.shortest.specs.Inner.Stops.{StatesOf}
use Rattle.shortest.specs.Inner.Insides.{SomeElement, InsideGoal}

-- a link has no other states than form states
pub given_state : (link n s : ℕ) → link < 256 → NextIn link n s → s < most_states → IsFormState s
given_state link n s h next below =
    elim (dec_lt s most_reply_states) [
      | yes l ↦ l
      | no l ↦ absurd (true≢false (sym (next.there below) ∙ bit_beyond most_reply_states link s h (omega arith)))
    ]

-- an element ends at the target state of a stop
ends_there : (lengths stops links : List ℕ) (m q c a b t e : ℕ) → StatesOf stops m → t < most_states →
    SomeElement lengths (Member stops) q links c a b t e → bit m t ≡ true
ends_there lengths stops links m q c a b t e states h (p, hp, ends) =
    let l = ends.end_state in
    states (mask_index p ends.end) t (omega arith) (member_word stops p ends.end t h ends.stop)

-- where no link is, there is no element
no_element : (lengths links : List ℕ) (Stopped : ℕ → ℕ → Type 0) (q c a b t e : ℕ) → SomeLink links c a b false →
    ¬ SomeElement lengths Stopped q links c a b t e
no_element lengths links Stopped q c a b t e none (p, hp, ends) =
    true≢false (sym ends.linked ∙ (ap (λ m. bit m ends.end) (none.none refl p hp) ∙ bit_zero ends.end))

-- the goals for form state a with form state b
module _ (A : Target) (links lengths stops : List ℕ) (q c a b : ℕ) where
  abbrev pub Goal : ℕ → Type 0
  Goal y = InsideGoal lengths (Member stops) q A links c a y

  abbrev pub RowGoal : ℕ → ℕ → Type 0
  RowGoal a' y = (a' ≡ a) × (form_part y ≡ b) × Goal y

  -- those of the target states below n
  abbrev pub RowPassed : ℕ → ℕ → ℕ → Type 0
  RowPassed = Passed (λ a' y. target_part y) RowGoal

  -- a turn at target state r: the inside leads there from target state o with k elements, and the element is closed to t
  module _ (r o k t : ℕ) (hr : r < most_states) (opens : o ≡ A.open_to q c) (long : length_of lengths (pair_of a o) (pair_of b r) ≡ k)
      (closes : t ≡ A.close_to r q c) where
    inside_long : length_of lengths (pair_of a (A.open_to q c)) (pair_of b r) ≡ k
    inside_long = rw (← opens) long

    goal_element : Goal (pair_of b r) → SomeElement lengths (Member stops) q links c a b t (k + 1)
    goal_element g = rw (closes, add-one k) (rw (form_of_lem b r hr, target_of_lem b r hr, inside_long) at g.element)

    goal_here : r < A.states → k < length_cap → SomeElement lengths (Member stops) q links c a b t (k + 1) → Goal (pair_of b r)
    goal_here h l e =
        record {
          below = rw (target_of_lem b r hr) h;
          counted = rw inside_long l;
          element = rw (form_of_lem b r hr, target_of_lem b r hr, inside_long) (rw (closes, add-one k) at e);
        }

    module _ {old mid : List ℕ} (u : Gains old mid (RowPassed r)) where
      pub row_more : {new : List ℕ} → r < A.states → k < length_cap → SomeElement lengths (Member stops) q links c a b t (k + 1) →
          Gains mid new (λ a' y. (a' ≡ a) × (y ≡ pair_of b r)) → Gains old new (RowPassed (r + 1))
      row_more h l e v =
          passed_more (λ a' y. target_part y) RowGoal r u v
          (λ a' y ha hy (i, j). rw j (target_of_lem b r hr, (i, form_of_lem b r hr, goal_here h l e)))
          (λ a' y ha hy d (i, j, g). (i, pair_is b r y j d))

      row_skip : ¬ Goal (pair_of b r) → Gains old mid (RowPassed (r + 1))
      row_skip none =
          passed_skip (λ a' y. target_part y) RowGoal r u
          (λ a' y ha hy d (i, j, g). none (rw (pair_is b r y j d) at g))

      -- no goal: the inside is too long to be counted, there is no such element, or none ends at that target state
      pub row_long : length_cap ≤ k → Gains old mid (RowPassed (r + 1))
      row_long l = row_skip (λ g. let h = rw inside_long at g.counted in omega arith)

      pub row_without : ¬ SomeElement lengths (Member stops) q links c a b t (k + 1) → Gains old mid (RowPassed (r + 1))
      row_without none = row_skip (λ g. none (goal_element g))

      pub row_beyond : (m : ℕ) → StatesOf stops m → t < most_states → bit m t ≡ false → Gains old mid (RowPassed (r + 1))
      row_beyond m states h out =
          row_without (λ e. true≢false (sym (ends_there lengths stops links m q c a b t (k + 1) states h e) ∙ out))

-- the goals for all form states
module _ (A : Target) (links lengths stops : List ℕ) (q c : ℕ) where
  abbrev pub CodeGoal : ℕ → ℕ → Type 0
  CodeGoal a y = IsFormState a × InsideGoal lengths (Member stops) q A links c a y

  -- those of the first n of all two form states
  abbrev pub CodePassed : ℕ → ℕ → ℕ → Type 0
  CodePassed = Passed (λ a y. pair_index a (form_part y)) CodeGoal

  module _ (i : ℕ) {old mid : List ℕ} (u : Gains old mid (CodePassed i)) where
    pub code_more : {new : List ℕ} → i < goal_count →
        Gains mid new (RowGoal A links lengths stops q c (i / most_reply_states) (i % most_reply_states)) →
        Gains old new (CodePassed (i + 1))
    code_more h v =
        passed_more (λ a y. pair_index a (form_part y)) CodeGoal i u v
        (λ a y ha hy (d, e, g). (omega arith, (omega arith, rw d g)))
        (λ a y ha hy d (l, g). let e : a ≡ i / most_reply_states = omega arith in (e, omega arith, rw e at g))

    pub code_skip : SomeLink links c (i / most_reply_states) (i % most_reply_states) false → Gains old mid (CodePassed (i + 1))
    code_skip none =
        passed_skip (λ a y. pair_index a (form_part y)) CodeGoal i u
        (λ a y ha hy d (l, g).
        let e : a ≡ i / most_reply_states = omega arith in
        let f : form_part y ≡ i % most_reply_states = omega arith in
        no_element lengths links (Member stops) q c _ _ _ _ none (rw f at (rw e at g.element)))
