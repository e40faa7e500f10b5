use mathlib.Core.Path.{sym}
use Rattle.effects.proofs.Collected.{collected_none, collected_carry}
use Rattle.solver.proofs.Solver.inner_goal.Goals as goal

pub loop-r-init : goal.loop-r-init
loop-r-init c = collected_none _

pub loop-r-preserved : goal.loop-r-preserved
loop-r-preserved c = rw c.taken-found.ensures (collected_carry _ _ _ c.loop-r.invariant _ (sym c.at_closing.ensures))
