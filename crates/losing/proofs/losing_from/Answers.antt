-- `losing::losing_from` meets its contract: the states from which the rest is won, and a reply that leads out of them.
use Rattle.losing.proofs.FoundLaws.{outcome_found}
use Rattle.losing.proofs.losing_from.Goals as goal

pub returns : goal.returns
returns c =
    let a = c.args in
    let won = c.won_states-won in
    λ G p x state hx may e.
    outcome_found a.solver.target.valid a.kept.states a.kept.depth won.result c.requires (rw c.pop-q.ensures.1 at won.ensures) _ _ _ _
    (rw c.pop-q.ensures.0 at c.shortest_outside.ensures) G p x state may e
