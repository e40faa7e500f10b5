-- `words::nesting::scan` meets its contract: the invariant is `Scanned`, what the pass knows before a tag.
use Rattle.words.proofs.Pass.{Scanned}
use Rattle.words.proofs.nesting.scan.Given as goal

abbrev pub invariant-loop-b : goal.invariant-loop-b
invariant-loop-b l = Scanned l.s l.«open» l.most l.b-index
