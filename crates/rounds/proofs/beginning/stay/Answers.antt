use native.Mathlib.Omega.{arith}
use Rattle.rounds.proofs.StayingLaws.{stayed_more, stayed_skip}
use Rattle.rounds.proofs.beginning.stay.Goals as goal
use Rattle.rounds.proofs.beginning.stay.Goals.{else-x-n, then-x-n}

pub loop-x-preserved : goal.loop-x-preserved
loop-x-preserved c =
    let l = c.loop-x in
    let (b, e, d) = l.invariant in
    elim c.if-x-n.branch [
      | then-x-n w ↦ rw (w.found-is, w.progress-is) (
        stayed_more _ _ _ _ _ l.x b (omega arith) (omega arith) w.if-x-n.true w.insert.ensures w.insert-then-x-n.ensures
            w.insert-then-x-n-2.ensures,
        e,
        d,
      )
      | else-x-n w ↦ rw (w.found-is, w.progress-is) (stayed_skip _ _ _ _ _ l.x b (omega arith), e, d)
    ]
