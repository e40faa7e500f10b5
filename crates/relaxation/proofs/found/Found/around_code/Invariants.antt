-- `relaxation::found::Found::around_code` meets its contract: lengths are relaxed by the elements that begin at the target states passed.
use Rattle.automata.specs.TargetBody.{target_of}
use Rattle.relaxation.specs.Inner.Relaxation.{Relaxed}
use Rattle.relaxation.proofs.RelaxTurns.{Passed}
use Rattle.relaxation.proofs.AroundLaws.{CodeTurn}
use Rattle.relaxation.proofs.found.Found.around_code.Given as goal

abbrev pub invariant-loop-q : goal.invariant-loop-q
invariant-loop-q l =
    Relaxed l.next
    (Passed (CodeTurn (target_of l.elements.target.bytes.now) l.elements.links.now l.y l.b l.inside l.c l.next) l.q)
    l.initial.self l.self
