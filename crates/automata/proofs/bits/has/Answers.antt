-- `automata::bits::has` meets its contract.
use mathlib.Core.Path.{refl}
use Rattle.automata.specs.Bits.{bit}
use Rattle.automata.proofs.bits.has.Goals as goal

pub returns : goal.returns
unfolding bit
returns c = refl
