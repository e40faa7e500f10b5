-- `relaxation::found::Found::around` meets its contract: lengths are relaxed by the elements of the codes passed; a code with no link has
-- none.
use Rattle.automata.specs.TargetBody.{target_of}
use Rattle.relaxation.specs.Inner.Relaxation.{Relaxed}
use Rattle.relaxation.proofs.RelaxTurns.{Passed}
use Rattle.relaxation.proofs.AroundLaws.{AnyTurn}
use Rattle.relaxation.proofs.found.Found.around.Given as goal

abbrev pub invariant-loop-c : goal.invariant-loop-c
invariant-loop-c l =
    Relaxed l.next (Passed (AnyTurn (target_of l.elements.target.bytes.now) l.elements.links.now l.y l.b l.inside l.next) l.c)
    l.initial.self l.self
