-- `replies::lawful::over_element` meets its contract. The invariant: the relation has what goes by way of the kept states below k.
use Rattle.replies.specs.Inner.Transitions.{ElementOf}
use Rattle.replies.proofs.lawful.over_element.Given as goal

abbrev pub invariant-loop-k : goal.invariant-loop-k
invariant-loop-k l = ElementOf l.table 0 l.c l.inside l.k l.m
