use Rattle.std.proofs.Common.{sym, ◌∙◌, arith}
use Rattle.std.proofs.Math.Bool.{true≢false}
use Rattle.shortest.proofs.StopLaws.{stopped_at_more, stopped_at_skip}
use Rattle.shortest.proofs.stops.find_stops.Goals as goal
use Rattle.shortest.proofs.stops.find_stops.Goals.{else-has_some, then-has_some}

pub loop-p-preserved : goal.loop-p-preserved
loop-p-preserved c =
    let l = c.loop-p in
    elim c.if-has_some.branch [
      | then-has_some w ↦ rw w.stops-is (stopped_at_more _ _ _ l.p l.invariant (omega arith) w.insert_stops.ensures)
      | else-has_some w ↦
          rw w.stops-is (stopped_at_skip _ _ _ l.p l.invariant (λ m. true≢false (sym (c.has_some.ensures.1 m) ∙ w.if-has_some.false)))
    ]
