-- `rounds::progress::Progress::forget_rows` meets its contract: the rows passed that are noted are put aside.
use mathlib.Core.Path.{◌≡◌}
use Rattle.rounds.specs.Inner.Forgotten.{RowsForgotten}
use Rattle.rounds.proofs.ForgettingLaws.{RowsBelow}
use Rattle.rounds.proofs.progress.Progress.forget_rows.Given as goal

abbrev pub invariant-loop-x : goal.invariant-loop-x
invariant-loop-x l =
    let p = l.initial.self in
    (l.x-iterator.table.now ≡ l.rows) × (l.x-iterator.x ≡ 0) ×
    RowsForgotten (RowsBelow l.rows l.x-iterator.from) p.fresh p.into l.self.fresh l.self.into × (l.self.settled ≡ p.settled)
