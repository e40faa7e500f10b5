use mathlib.Core.Path.{◌∙◌}
use native.Mathlib.Omega.{arith}
use Rattle.rounds.proofs.SettlingLaws.{rows_more, rows_skip}
use Rattle.rounds.proofs.progress.Progress.settle_rows.Goals as goal
use Rattle.rounds.proofs.progress.Progress.settle_rows.Goals.{else-found-x, then-found-x}

pub loop-x-preserved : goal.loop-x-preserved
loop-x-preserved c =
    let l = c.loop-x in
    let (b, el, ei, d) = l.invariant in
    elim c.if-found-x.branch [
      | then-found-x w ↦ rw (w.self-is, w.found-is, w.rows-is) (
        rows_more _ _ _ _ _ _ l.x b (omega arith) w.if-found-x.true (rw el at w.settle_row.ensures.settled) w.insert.ensures,
        w.settle_row.ensures.others.0 ∙ el,
        w.settle_row.ensures.others.1 ∙ ei,
        w.insert.auto.table ∙ d,
      )
      | else-found-x w ↦ rw (w.self-is, w.found-is, w.rows-is) (rows_skip _ _ _ _ _ _ l.x b (omega arith) w.if-found-x.false, el, ei, d)
    ]
