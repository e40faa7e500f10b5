-- `solver::Solver::inner_goal` meets its contract: the states below r from which the goal is met have been collected.
use Rattle.automata.specs.Bits.{bit}
use Rattle.effects.proofs.Collected.{Collected}
use Rattle.solver.specs.Inner.Evaluated.{state_goal}
use Rattle.solver.proofs.Solver.inner_goal.Given as goal

abbrev pub invariant-loop-r : goal.invariant-loop-r
invariant-loop-r l = Collected (state_goal l.self.target.bytes.now l.self.sets.now l.c l.q (bit l.goal)) l.r l.found
