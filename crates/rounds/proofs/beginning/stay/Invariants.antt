-- `rounds::beginning::stay` meets its contract: each pair passed leads to itself with no element.
use mathlib.Core.Path.{◌≡◌}
use Rattle.rounds.proofs.StayingLaws.{StayedBelow}
use Rattle.rounds.proofs.beginning.stay.Given as goal

abbrev pub invariant-loop-x : goal.invariant-loop-x
invariant-loop-x l =
    let f = l.initial.found in
    let p = l.initial.progress in
    StayedBelow l.n f.lengths f.known p.settled p.into l.x l.found.lengths l.found.known l.progress.settled l.progress.into ×
    (l.found.least ≡ f.least) × (l.progress.fresh ≡ p.fresh)
