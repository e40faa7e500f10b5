-- `automata::target::TargetBody::states` meets its contract.
use Rattle.std.proofs.Common.{rules}
use Rattle.automata.specs.TargetBody.{target_of}
use Rattle.automata.proofs.target.TargetBody.states.Goals as goal

pub returns : goal.returns
unfolding target_of
returns c = search rules
