-- `effects::within` meets its contract: the union with the goal is the goal exactly when the goal has every result.
use Prim.Native.Nat.{◌+◌, ◌*◌}
use native.Mathlib.Omega.{arith}
use Rattle.automata.specs.TargetBody.{most_states}
use Rattle.effects.specs.Inner.Lent.{set_in}
use Rattle.effects.proofs.WithinLaws.{within_tested}
use Rattle.effects.proofs.within.Goals as goal

pub returns : goal.returns
unfolding set_in
returns c =
    let a = c.args in
    let fits = c.type_inv.sets (most_states * a.c + a.q) in
    within_tested a.sets.now a.c a.q a.goal (omega arith) (omega arith)
