-- `effects::numbers::write_numbers` meets its contract: the numbers passed are written.
use Rattle.effects.specs.Inner.Numbers.{NumbersWritten}
use Rattle.effects.proofs.numbers.write_numbers.Given as goal

abbrev pub invariant-loop-i : goal.invariant-loop-i
invariant-loop-i l = NumbersWritten l.lengths l.from l.last l.i l.numbers
