use Rattle.automata.proofs.TargetTables.{target_closed, few_target_states}
use Rattle.lengths.proofs.SearchLaws.{left_falls, searched_done}
use Rattle.lengths.proofs.search.settle.Goals as goal

pub loop-l-smaller : goal.loop-l-smaller
loop-l-smaller c =
    let x = c.round.ensures in
    left_falls _ _ x.more x.searched.settled_long

pub returns : goal.returns
returns c =
    let v = c.args.elements.target.valid in
    let inv = c.loop-l.invariant in
    searched_done _ _ (target_closed _ v) (few_target_states _ v) _ _ _ _ _ inv.1 (rw c.in_default.is at c.least_row.ensures)
