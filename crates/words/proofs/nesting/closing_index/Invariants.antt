-- `words::nesting::closing_index` meets its contract. The invariant: the index is among the tags left.
use Prim.Native.Nat.{◌≤◌}
use Rattle.words.proofs.Innermost.{Sought}
use Rattle.words.proofs.nesting.closing_index.Given as goal

abbrev pub invariant-loop-i : goal.invariant-loop-i
invariant-loop-i l = (l.count ≤ l.i) × Sought l.rest l.count l.i
