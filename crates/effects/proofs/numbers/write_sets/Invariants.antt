-- `effects::numbers::write_sets` meets its contract: the sets passed are in the list.
use mathlib.Core.Path.{◌≡◌}
use lib.ListN.{length}
use Rattle.effects.specs.Inner.Sets.{set_count}
use Rattle.effects.specs.Inner.Numbers.{numbers_of}
use Rattle.effects.proofs.SetLaws.{SetsBelow}
use Rattle.effects.proofs.numbers.write_sets.Given as goal

abbrev pub invariant-loop-i : goal.invariant-loop-i
invariant-loop-i l = (length l.sets ≡ set_count) × SetsBelow (numbers_of l.numbers) l.i l.sets
