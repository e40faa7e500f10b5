-- `replies::relation::has_pair` meets its contract.
use mathlib.Core.Path.{refl}
use Rattle.automata.specs.Bits.{bit}
use Rattle.replies.proofs.relation.has_pair.Goals as goal

pub returns : goal.returns
unfolding bit
returns c = refl
