-- `rounds::progress::Progress::use_inside` meets its contract: lengths are relaxed by the elements around what is new, for the form states
-- passed.
use Rattle.automata.specs.TargetBody.{target_of}
use Rattle.relaxation.specs.Inner.Relaxation.{Relaxed}
use Rattle.relaxation.proofs.RelaxTurns.{Passed}
use Rattle.rounds.proofs.InsideTurns.{InsideTurn}
use Rattle.rounds.proofs.progress.Progress.use_inside.Given as goal

abbrev pub invariant-loop-b : goal.invariant-loop-b
invariant-loop-b l =
    Relaxed l.next
    (Passed (InsideTurn (target_of l.elements.target.bytes.now) l.elements.links.now l.self.fresh l.next l.x) l.b)
    l.initial.found l.found
