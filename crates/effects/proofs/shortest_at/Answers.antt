-- `effects::shortest_at` meets its contract: it reads the number that `shortest_at` names, and says what it tells.
use native.Mathlib.Omega.{arith}
use Rattle.effects.specs.Effects.{shortest_at}
use Rattle.effects.proofs.ToldLaws.{told_none, told_tags, told_longer}
use Rattle.effects.proofs.shortest_at.Goals as goal

pub returns-then-number-eq0 : goal.returns-then-number-eq0
unfolding shortest_at
returns-then-number-eq0 c = told_none _ c.if-number-eq0.true

pub returns-then-number-lt-LONG_NUMBER : goal.returns-then-number-lt-LONG_NUMBER
unfolding shortest_at
returns-then-number-lt-LONG_NUMBER c = rw c.from.ensures (told_tags _ c.if-number-eq0.false (omega arith))

pub returns-else-number-lt-LONG_NUMBER : goal.returns-else-number-lt-LONG_NUMBER
unfolding shortest_at
returns-else-number-lt-LONG_NUMBER c = told_longer _ (omega arith)
