-- `relaxation::found::Found::around_state` meets its contract: lengths from the form states passed are relaxed to all that a link has.
use Rattle.relaxation.specs.Inner.Relaxation.{Relaxed}
use Rattle.relaxation.proofs.RelaxTurns.{Passed}
use Rattle.relaxation.proofs.AroundLaws.{StateTurn}
use Rattle.relaxation.proofs.found.Found.around_state.Given as goal

abbrev pub invariant-loop-p : goal.invariant-loop-p
invariant-loop-p l =
    Relaxed l.next (Passed (StateTurn l.elements.links.now l.c l.q l.a l.b l.mask l.next) l.p) l.initial.self l.self
