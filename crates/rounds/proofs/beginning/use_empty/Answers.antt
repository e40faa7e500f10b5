use mathlib.Core.Path.{◌≡◌, ◌∙◌}
use Prim.Native.Nat.{◌^◌}
use native.Mathlib.Nat.{one-mul}
use native.Mathlib.Omega.{arith}
use lib.Dec.{lit<}
use lib.Pow.{shl_exact}
use Rattle.automata.specs.TargetBody.{most_states}
use Rattle.relaxation.specs.Inner.Pairs.{pair_count, target_part}
use Rattle.rounds.proofs.InsideTurns.{empty_more, empty_skip, empty_all}
use Rattle.rounds.proofs.beginning.use_empty.Goals as goal
use Rattle.rounds.proofs.beginning.use_empty.Goals.{else-y-n, then-y-n}

pub loop-y-preserved : goal.loop-y-preserved
loop-y-preserved c =
    let l = c.loop-y in
    let one = shl_exact 1 (target_part l.y) most_states (lit< tt) (omega arith) ∙ one-mul (2 ^ target_part l.y) in
    elim c.if-y-n.branch [
      | then-y-n w ↦ rw w.found-is (empty_more _ _ l.y l.invariant _ (omega arith) one w.around.ensures)
      | else-y-n w ↦ rw w.found-is (empty_skip _ _ l.y l.invariant (omega arith))
    ]

pub returns : goal.returns
returns c =
    let e : c.loop-y.y ≡ pair_count = omega arith in
    empty_all _ _ (rw e at c.loop-y.invariant)
