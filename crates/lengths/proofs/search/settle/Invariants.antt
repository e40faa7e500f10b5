-- `lengths::search::settle` meets its contract: each round settles something, and at the end nothing is left.
use Rattle.std.proofs.Common.{ℕ}
use Rattle.automata.specs.TargetBody.{target_of}
use Rattle.lengths.specs.Inner.Search.{Searched}
use Rattle.lengths.proofs.SearchLaws.{still_left}
use Rattle.lengths.proofs.search.settle.Given as goal

abbrev pub invariant-loop-l : goal.invariant-loop-l
invariant-loop-l l =
    let e = l.elements in
    let p = l.progress in
    (k : ℕ) × Searched (target_of e.target.bytes.now) e.links.now p.settled p.into p.fresh l.found k

abbrev pub decreases-loop-l : goal.decreases-loop-l
decreases-loop-l l = still_left l.progress.settled
