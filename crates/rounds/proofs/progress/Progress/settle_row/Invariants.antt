-- `rounds::progress::Progress::settle_row` meets its contract: the lengths passed are settled, or the least of them is `left`.
use mathlib.Core.Path.{◌≡◌}
use Rattle.rounds.proofs.SettlingLaws.{RowBelow}
use Rattle.rounds.proofs.progress.Progress.settle_row.Given as goal

abbrev pub invariant-loop-z : goal.invariant-loop-z
invariant-loop-z l =
    let f = l.initial.found in
    let p = l.initial.self in
    RowBelow f.lengths l.x l.l p.settled f.known p.fresh l.z l.self.settled l.found.known l.self.fresh l.left ×
    (l.found.lengths ≡ f.lengths) × (l.found.least ≡ f.least) × (l.self.into ≡ p.into)
