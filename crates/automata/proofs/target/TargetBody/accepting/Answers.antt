-- `automata::target::TargetBody::accepting` meets its contract.
use mathlib.Core.Path.{ap}
use Rattle.automata.specs.Bits.{bit}
use Rattle.automata.specs.TargetBody.{target_of}
use Rattle.automata.proofs.target.TargetBody.accepting.Goals as goal

pub returns : goal.returns
unfolding target_of
returns c = λ q. ap (λ m. bit m q) c.read_four.ensures.0
