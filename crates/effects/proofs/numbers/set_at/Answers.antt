use mathlib.Core.Path.{◌≡◌, ◌∙◌, ap}
use native.Mathlib.Omega.{arith}
use Rattle.automata.specs.TargetBody.{most_states}
use Rattle.effects.proofs.SetLaws.{set_below, set_none, set_more, set_skip, set_all}
use Rattle.effects.proofs.numbers.set_at.Goals as goal
use Rattle.effects.proofs.numbers.set_at.Goals.{else-numbers-i-ne0, then-numbers-i-ne0}

pub loop-s-init : goal.loop-s-init
loop-s-init c = set_none _ _

pub loop-s-preserved : goal.loop-s-preserved
loop-s-preserved c =
    let l = c.loop-s in
    let a = c.args in
    elim c.if-numbers-i-ne0.branch [
      | then-numbers-i-ne0 w ↦
          rw w.set-is (w.with-set.ensures ∙ set_more a.numbers.now a.i l.s l.set l.invariant w.if-numbers-i-ne0.true)
      | else-numbers-i-ne0 w ↦ rw w.set-is (set_skip a.numbers.now a.i l.s l.set l.invariant w.if-numbers-i-ne0.false)
    ]

pub returns : goal.returns
returns c =
    let l = c.loop-s in
    let a = c.args in
    let e : l.s ≡ most_states = omega arith in
    set_all a.numbers.now a.i l.set (l.invariant ∙ ap (set_below a.numbers.now a.i) e)
