-- `effects::numbers::set_at` meets its contract: the mask so far has the states passed that have a number.
use mathlib.Core.Path.{◌≡◌}
use Rattle.effects.proofs.SetLaws.{set_below}
use Rattle.effects.proofs.numbers.set_at.Given as goal

abbrev pub invariant-loop-s : goal.invariant-loop-s
invariant-loop-s l = l.set ≡ set_below l.numbers l.i l.s
