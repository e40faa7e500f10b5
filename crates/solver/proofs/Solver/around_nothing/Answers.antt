use mathlib.Core.Path.{sym, ◌∙◌, ap}
use Rattle.automata.specs.Bits.{bit}
use Rattle.effects.proofs.Collected.{collected_none, collected_carry}
use Rattle.solver.specs.Inner.Evaluated.{state_goal}
use Rattle.solver.proofs.Solver.around_nothing.Goals as goal

pub loop-q-init : goal.loop-q-init
loop-q-init c = collected_none _

pub loop-q-preserved : goal.loop-q-preserved
loop-q-preserved c =
    let p = c.open_to-p in
    let a = c.args in
    let goal = state_goal a.self.target.bytes.now a.self.sets.now a.c c.loop-q.q (bit a.goal) in
    let led = ap (λ r. goal r) (sym p.ensures.is) in
    rw c.taken-found.ensures (collected_carry _ _ _ c.loop-q.invariant _ (led ∙ sym c.at_closing.ensures))
