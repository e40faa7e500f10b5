-- `print_answer` is safe: the target of an accepted file has few states.
use mathlib.Core.List.{List}
use Prim.Native.Nat.{ℕ, ◌≤◌}
use Rattle.automata.specs.TargetBody.{most_states}
use Rattle.automata.proofs.TargetTables.{few_target_states}
use Rattle.contents.specs.Contents.{target_body}
use Rattle.job.proofs.Accepted.{is_accepted}
use Rattle.game.specs.Job.{game_of}
use Rattle.solver.specs.Report.{ReportIs}
use Rattle.solver.specs.declared.verdict.Report.{Report}
use Rattle.verdict.proofs.print_answer.Goals as goal

few_states : (file : List ℕ) {r : Report} → ReportIs file r → r.states ≤ most_states
unfolding game_of
few_states file is = rw is.states (few_target_states (target_body file) (is_accepted file is.accepted).bodies.target)

pub print_listing-requires : goal.print_listing-requires
print_listing-requires c = few_states _ c.in-Ok.ensures
