use Rattle.replies.proofs.RelationLaws.{gathered_none}
use Rattle.replies.proofs.TransitionLaws.{element_more, element_skip}
use Rattle.replies.proofs.lawful.over_element.Goals as goal
use Rattle.replies.proofs.lawful.over_element.Goals.{else-opened-ne0, then-opened-ne0}

pub loop-k-init : goal.loop-k-init
loop-k-init c = gathered_none

pub loop-k-preserved : goal.loop-k-preserved
loop-k-preserved c =
    let k = c.loop-k.invariant in
    elim c.if-opened-ne0.branch [
      | then-opened-ne0 w ↦ rw w.m-is (element_more _ _ _ _ _ k _ _ w.compose.ensures w.compose-m.ensures)
      | else-opened-ne0 w ↦ rw w.m-is (element_skip _ _ _ _ _ k w.if-opened-ne0.false)
    ]
