-- `solver::Solver::around_nothing` meets its contract: the states below q from which the empty element is won have been collected.
use Rattle.words.specs.Forest.{none, elem}
use Rattle.automata.specs.Bits.{bit}
use Rattle.effects.proofs.Collected.{Collected}
use Rattle.solver.specs.Inner.Evaluated.{won_before, by_states}
use Rattle.solver.proofs.Solver.around_nothing.Given as goal

abbrev pub invariant-loop-q : goal.invariant-loop-q
invariant-loop-q l =
    Collected (won_before (by_states l.self.target.bytes.now l.self.sets.now) (elem l.c none none) (bit l.goal)) l.q l.found
