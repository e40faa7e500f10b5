use Rattle.std.proofs.Common.{◌≡◌, sym, ◌∙◌, arith}
use Rattle.std.proofs.Math.Bool.{true≢false}
use Rattle.shortest.specs.Inner.Wanted.{goal_count}
use Rattle.shortest.proofs.OnwardLaws.{onward_more, onward_skip, onward_all}
use Rattle.shortest.proofs.onward.find_onward.Goals as goal
use Rattle.shortest.proofs.onward.find_onward.Goals.{else-has_pair, then-has_pair}

pub loop-i-preserved : goal.loop-i-preserved
loop-i-preserved c =
    let l = c.loop-i in
    let has = c.has_pair.ensures in
    elim c.if-has_pair.branch [
      | then-has_pair w ↦
          rw w.next-is (onward_more _ _ _ _ _ _ l.i l.invariant (omega arith) (sym has ∙ w.if-has_pair.true) w.keep_goals.ensures)
      | else-has_pair w ↦
          rw w.next-is (onward_skip _ _ _ _ _ _ l.i l.invariant (λ r. true≢false (sym r ∙ sym has ∙ w.if-has_pair.false)))
    ]

pub returns : goal.returns
returns c = let e : c.loop-i.i ≡ goal_count = omega arith in onward_all _ _ _ _ _ _ (rw e at c.loop-i.invariant)
