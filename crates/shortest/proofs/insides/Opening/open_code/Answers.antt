use Rattle.std.proofs.Common.{arith}
use Rattle.shortest.proofs.InsideLaws.{code_more, code_skip}
use Rattle.shortest.proofs.insides.Opening.open_code.Goals as goal
use Rattle.shortest.proofs.insides.Opening.open_code.Goals.{else-linked, then-linked}

pub loop-i-preserved : goal.loop-i-preserved
loop-i-preserved c =
    let l = c.loop-i in
    elim c.if-linked.branch [
      | then-linked w ↦ rw w.inside-is (code_more _ _ _ _ _ _ l.i l.invariant (omega arith) w.open_row.ensures)
      | else-linked w ↦ rw w.inside-is (code_skip _ _ _ _ _ _ l.i l.invariant (rw w.if-linked.false at c.linked.ensures))
    ]
