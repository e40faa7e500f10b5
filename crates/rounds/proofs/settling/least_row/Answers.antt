use Prim.{tt}
use Rattle.relaxation.proofs.LeastLaws.{least_min}
use Rattle.rounds.proofs.settling.least_row.Goals as goal

pub loop-k-preserved : goal.loop-k-preserved
loop-k-preserved c = rw c.min-l.ensures (least_min _ _ c.loop-k.invariant tt)
