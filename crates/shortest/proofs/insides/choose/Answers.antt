-- `shortest::insides::choose` meets its contract: the table has the stops of the goals, so the first code by it is the first by them.
use Rattle.automata.proofs.TargetTables.{target_closed, few_target_states}
use Rattle.shortest.proofs.ChooseLaws.{stops_chosen, no_stop_chosen}
use Rattle.shortest.proofs.insides.choose.Goals as goal

pub returns-then-ends-eq0 : goal.returns-then-ends-eq0
returns-then-ends-eq0 c =
    let valid = c.args.search.tables.target.valid in
    no_stop_chosen _ (target_closed _ valid) (few_target_states _ valid) _ _ _ _ _ (rw c.new-stops.ensures at c.find_stops.ensures)
    (rw c.if-ends-eq0.true at c.states-ends.ensures)

pub returns : goal.returns
returns c =
    let valid = c.args.search.tables.target.valid in
    stops_chosen _ (target_closed _ valid) (few_target_states _ valid) _ _ _ _ _ (rw c.new-stops.ensures at c.find_stops.ensures) _ _
    c.first_code.ensures
