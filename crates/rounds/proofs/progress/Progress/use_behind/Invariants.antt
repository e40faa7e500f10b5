-- `rounds::progress::Progress::use_behind` meets its contract: what leads to x has been joined with what is new in row x, for the pairs
-- passed.
use mathlib.Core.Path.{◌≡◌}
use Rattle.relaxation.specs.Inner.Relaxation.{Relaxed}
use Rattle.relaxation.proofs.RelaxTurns.{Passed}
use Rattle.rounds.proofs.UsingLaws.{BehindTurn}
use Rattle.rounds.proofs.progress.Progress.use_behind.Given as goal

abbrev pub invariant-loop-w : goal.invariant-loop-w
invariant-loop-w l =
    let s = l.w-iterator in
    (s.table.now ≡ l.self.into) × (s.x ≡ l.x) ×
    Relaxed l.next (Passed (BehindTurn l.self.into l.self.fresh l.initial.found.lengths l.x) s.from) l.initial.found l.found
