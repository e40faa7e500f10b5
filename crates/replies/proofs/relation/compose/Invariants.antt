-- `replies::relation::compose` meets its contract.
use Rattle.replies.specs.Inner.Relation.{Composing}
use Rattle.replies.proofs.relation.compose.Given as goal

abbrev pub invariant-loop-p : goal.invariant-loop-p
invariant-loop-p l = Composing l.x l.y l.p l.m
