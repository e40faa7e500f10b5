-- `solver::Solver::at_closing` meets its contract: a fetch wins, or the closing tag leads into the goal.
use mathlib.Core.Path.{sym, ◌∙◌, ap}
use Rattle.automata.specs.Bits.{bit}
use Rattle.automata.proofs.TargetTables.{few_target_states}
use Rattle.game.proofs.Before.{goal_fetched, goal_read}
use borrow.Author.Rules.{rules}
use Rattle.solver.proofs.Solver.at_closing.Goals as goal

pub fetch_wins-requires : goal.fetch_wins-requires
fetch_wins-requires c =
    let few = few_target_states c.args.self.target.bytes.now c.args.self.target.valid in
    search rules

pub returns-then-fetch_wins : goal.returns-then-fetch_wins
returns-then-fetch_wins c = c.if-fetch_wins.true ∙ sym (goal_fetched _ _ _ _ _ _ _ (sym c.fetch_wins.ensures ∙ c.if-fetch_wins.true))

pub returns-else-fetch_wins : goal.returns-else-fetch_wins
returns-else-fetch_wins c =
    let goal = c.args.goal in
    let loses = sym c.fetch_wins.ensures ∙ c.if-fetch_wins.false in
    c.has-read.ensures ∙ ap (λ s. bit goal s) c.close_to.ensures.is ∙ sym (goal_read _ _ _ _ _ _ _ loses)
