-- `rounds::progress::Progress::use_ahead` meets its contract: what is new in row x has been joined with what is settled after it, for the
-- pairs passed.
use mathlib.Core.Path.{◌≡◌}
use Rattle.relaxation.specs.Inner.Relaxation.{Relaxed}
use Rattle.relaxation.proofs.RelaxTurns.{Passed}
use Rattle.rounds.proofs.UsingLaws.{AheadTurn}
use Rattle.rounds.proofs.progress.Progress.use_ahead.Given as goal

abbrev pub invariant-loop-y : goal.invariant-loop-y
invariant-loop-y l =
    let s = l.y-iterator in
    (s.table.now ≡ l.self.fresh) × (s.x ≡ l.x) ×
    Relaxed l.next (Passed (AheadTurn l.self.settled l.self.fresh l.initial.found.lengths l.x) s.from) l.initial.found l.found
