-- `shortest::tables::Lengths::between` meets its contract.
use mathlib.Core.Path.{refl}
use Rattle.relaxation.specs.Inner.Lengths.{length_of}
use Rattle.shortest.proofs.tables.Lengths.between.Goals as goal

pub returns : goal.returns
unfolding length_of
returns c = refl
