-- `rounds::progress::Progress::use_rows` meets its contract: what is new in the rows passed has been used; a row that is not noted has
-- nothing new.
use mathlib.Core.Path.{◌≡◌}
use Rattle.automata.specs.TargetBody.{target_of}
use Rattle.relaxation.specs.Inner.Relaxation.{Relaxed}
use Rattle.relaxation.proofs.RelaxTurns.{Passed}
use Rattle.rounds.proofs.UsingLaws.{RowTurn}
use Rattle.rounds.proofs.progress.Progress.use_rows.Given as goal

abbrev pub invariant-loop-x : goal.invariant-loop-x
invariant-loop-x l =
    let s = l.x-iterator in
    let p = l.self in
    let e = l.elements in
    (s.table.now ≡ l.rows) × (s.x ≡ 0) ×
    Relaxed l.next
    (Passed (RowTurn (target_of e.target.bytes.now) e.links.now p.settled p.into p.fresh l.next l.initial.found.lengths) s.from)
    l.initial.found l.found
