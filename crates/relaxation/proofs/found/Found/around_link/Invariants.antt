-- `relaxation::found::Found::around_link` meets its contract: lengths to the form states passed are relaxed, if the link has them.
use Prim.Native.Nat.{ℕ, ◌≤◌}
use Rattle.automata.specs.TargetBody.{most_states}
use Rattle.automata.specs.Inner.StatesIn.{StatesFrom}
use Rattle.relaxation.specs.Inner.Relaxation.{Relaxed}
use Rattle.relaxation.proofs.RelaxTurns.{Passed}
use Rattle.relaxation.proofs.AroundLaws.{LinkTurn}
use Rattle.relaxation.proofs.found.Found.around_link.Given as goal

abbrev pub invariant-loop-r : goal.invariant-loop-r
invariant-loop-r l =
    (from : ℕ) × StatesFrom l.link from l.r-iterator × (from ≤ most_states) ×
    Relaxed l.next (Passed (LinkTurn l.x l.link l.mask l.next) from) l.initial.self l.self
