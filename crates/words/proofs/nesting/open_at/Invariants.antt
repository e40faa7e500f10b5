-- `words::nesting::open_at` meets its contract. The invariant: the count is of what is open at the index.
use mathlib.Core.Path.{◌≡◌}
use Prim.Native.Nat.{◌≤◌}
use Rattle.words.specs.Tag.{word_of}
use Rattle.words.specs.Opened.{open_at}
use Rattle.words.proofs.nesting.open_at.Given as goal

abbrev pub invariant-loop-b : goal.invariant-loop-b
invariant-loop-b l = (l.count ≤ l.b-index) × (l.count ≡ open_at (word_of l.word) l.b-index)
