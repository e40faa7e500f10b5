-- `rounds::progress::Progress::settle_rows` meets its contract: the rows passed whose least length is l are settled, and noted.
use mathlib.Core.Path.{◌≡◌}
use lib.ListN.{length}
use Rattle.automata.specs.ReplyBody.{most_reply_states}
use Rattle.rounds.specs.Inner.Settled.{RowsSettled}
use Rattle.rounds.proofs.progress.Progress.settle_rows.Given as goal

abbrev pub invariant-loop-x : goal.invariant-loop-x
invariant-loop-x l =
    let f = l.initial.found in
    let p = l.initial.self in
    RowsSettled f.lengths l.x l.l f.least p.settled f.known p.fresh l.found.least l.self.settled l.found.known l.self.fresh l.initial.rows
    l.rows ×
    (l.found.lengths ≡ f.lengths) × (l.self.into ≡ p.into) × (length l.rows ≡ most_reply_states)
