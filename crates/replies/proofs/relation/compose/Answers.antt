use Rattle.replies.proofs.RelationLaws.{gathered_none, composed_more}
use Rattle.replies.proofs.relation.compose.Goals as goal

pub loop-p-init : goal.loop-p-init
loop-p-init c = gathered_none

pub loop-p-preserved : goal.loop-p-preserved
loop-p-preserved c = composed_more _ _ _ _ c.loop-p.invariant _ _ c.loop-p-test.true c.column.ensures c.row.ensures
