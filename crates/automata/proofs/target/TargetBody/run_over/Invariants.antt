-- `automata::target::TargetBody::run_over` meets its contract.
-- The invariant: the rest of the run, from the state and the kept states, is the whole run.
use Rattle.automata.specs.TargetBody.{target_of}
use Rattle.automata.proofs.TargetPass.{Ran}
use Rattle.automata.proofs.target.TargetBody.run_over.Given as goal

abbrev pub invariant-loop-b : goal.invariant-loop-b
invariant-loop-b l = Ran (target_of l.self.bytes.now) l.word l.q l.kept l.state l.b-index
