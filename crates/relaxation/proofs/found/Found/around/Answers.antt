use mathlib.Core.Path.{◌≡◌}
use native.Mathlib.Omega.{arith}
use Rattle.words.specs.Tag.{codes}
use Rattle.relaxation.proofs.AroundLaws.{any_more, any_skip, any_all}
use Rattle.relaxation.proofs.found.Found.around.Goals as goal
use Rattle.relaxation.proofs.found.Found.around.Goals.{else-linked, then-linked}

pub loop-c-preserved : goal.loop-c-preserved
loop-c-preserved c =
    let l = c.loop-c in
    elim c.if-linked.branch [
      | then-linked w ↦ rw w.self-is (any_more _ _ _ _ _ _ l.c l.invariant w.around_code.ensures)
      | else-linked w ↦ rw w.self-is (any_skip _ _ _ _ _ _ l.c l.invariant (rw w.if-linked.false at c.linked.ensures))
    ]

pub returns : goal.returns
returns c =
    let e : c.loop-c.c ≡ codes = omega arith in
    any_all _ _ _ _ _ _ (rw e at c.loop-c.invariant)
