-- `rounds::beginning::use_empty` meets its contract: lengths are relaxed by the elements with nothing within them, for the pairs passed.
use Rattle.automata.specs.TargetBody.{target_of}
use Rattle.relaxation.specs.Inner.Relaxation.{Relaxed}
use Rattle.relaxation.proofs.RelaxTurns.{Passed}
use Rattle.rounds.proofs.InsideTurns.{EmptyTurn}
use Rattle.rounds.proofs.beginning.use_empty.Given as goal

abbrev pub invariant-loop-y : goal.invariant-loop-y
invariant-loop-y l =
    Relaxed 1 (Passed (EmptyTurn (target_of l.elements.target.bytes.now) l.elements.links.now) l.y) l.initial.found l.found
