-- `relaxation::found::Found::join` meets its contract: lengths to the words passed are relaxed to the sums.
use Rattle.relaxation.specs.Inner.Relaxation.{Relaxed}
use Rattle.relaxation.proofs.RelaxTurns.{Passed}
use Rattle.relaxation.proofs.JoinLaws.{WordTurn}
use Rattle.relaxation.proofs.found.Found.join.Given as goal

abbrev pub invariant-loop-r : goal.invariant-loop-r
invariant-loop-r l = Relaxed l.next (Passed (WordTurn l.initial.self.lengths l.members l.x l.y) l.r) l.initial.self l.self
