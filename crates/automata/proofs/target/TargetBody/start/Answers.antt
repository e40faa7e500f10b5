-- `automata::target::TargetBody::start` meets its contract.
use Rattle.automata.specs.TargetBody.{target_of}
use Rattle.automata.proofs.TargetTables.{start_is}
use Rattle.automata.proofs.target.TargetBody.start.Goals as goal

pub returns : goal.returns
unfolding target_of
returns c = rw c.from.ensures (start_is c.args.self.bytes.now c.args.self.valid)
