use Rattle.std.proofs.Common.{sym, ◌∙◌, arith, true≢false}
use native.Mathlib.Decide.{ℕ_discrete, dec_lt}
use Rattle.shortest.specs.Inner.Insides.{EndsAt}
use Rattle.words.proofs.Truth.{told_yes, told_no}
use Rattle.automata.proofs.StatesLaws.{next_given, none_given}
use Rattle.shortest.proofs.InsideLaws.{given_state}
use Rattle.shortest.proofs.insides.Opening.ends_at.Goals as goal
use Rattle.shortest.proofs.insides.Opening.ends_at.Goals.{else-between-e-via-then-between-e+else-has, else-between-e-via-else-between-e}

pub loop-s-init : goal.loop-s-init
loop-s-init c =
    rw c.into_iter-s-iterator.ensures.into_iter_gives (0, rw c.from.ensures at c.states_in-s-items.ensures, λ s l. absurd (omega arith))

pub between-requires : goal.between-requires
between-requires c =
    let (_, f, _) = c.loop-s.invariant in
    let (next, below, _) = next_given f c.in-Some.ensures.steps in
    let s = given_state c.args.link _ _ (omega arith) next below in
    (omega arith, omega arith)

pub has-requires : goal.has-requires
has-requires c =
    let (_, f, _) = c.loop-s.invariant in
    let (next, below, _) = next_given f c.in-Some.ensures.steps in
    let s = given_state c.args.link _ _ (omega arith) next below in
    (omega arith, omega arith)

pub loop-s-preserved : goal.loop-s-preserved
loop-s-preserved c =
    let (from, f, passed) = c.loop-s.invariant in
    let (next, below, later) = next_given f c.in-Some.ensures.steps in (
      _,
      later,
      λ s l on stop long.
          elim (dec_lt s from) [
            | yes a ↦ passed s a on stop long
            | no a ↦ elim (ℕ_discrete s c.in-Some.s) [
              | yes e ↦ elim c.else-between-e.branch [
                | else-between-e-via-then-between-e+else-has w ↦ true≢false (sym (rw e at stop) ∙ sym w.has.ensures ∙ w.if-has.false)
                | else-between-e-via-else-between-e w ↦ w.if-between-e.false (c.between.ensures ∙ (rw e at long))
              ]
              | no n ↦ true≢false (sym on ∙ next.none s (omega arith) (omega arith))
            ]
          ],
    )

pub returns-then-has : goal.returns-then-has
returns-then-has c =
    let (_, f, _) = c.loop-s.invariant in
    let (next, below, _) = next_given f c.in-Some.ensures.steps in
    told_yes (record {
      end = c.in-Some.s;
      end_state = given_state c.args.link _ _ (omega arith) next below;
      linked = next.there below;
      stop = sym c.has.ensures ∙ c.if-has.true;
      long = sym c.between.ensures ∙ c.if-between-e.true;
    })

pub returns : goal.returns
returns c =
    let (from, f, passed) = c.loop-s.invariant in
    told_no (λ (d : EndsAt _ _ _ _ _ _ _). elim (dec_lt d.end from) [
      | yes a ↦ passed d.end a d.linked d.stop d.long
      | no a ↦ true≢false (sym d.linked ∙ none_given f c.in-None.ensures.steps d.end (omega arith))
    ])
