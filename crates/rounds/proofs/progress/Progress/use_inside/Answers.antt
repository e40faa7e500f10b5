use mathlib.Core.Path.{◌≡◌}
use native.Mathlib.Omega.{arith}
use Rattle.automata.specs.ReplyBody.{most_reply_states}
use Rattle.rounds.proofs.InsideTurns.{inside_more, inside_skip, inside_all}
use Rattle.rounds.proofs.progress.Progress.use_inside.Goals as goal
use Rattle.rounds.proofs.progress.Progress.use_inside.Goals.{else-inside-ne0, then-inside-ne0}

pub loop-b-preserved : goal.loop-b-preserved
loop-b-preserved c =
    let l = c.loop-b in
    elim c.if-inside-ne0.branch [
      | then-inside-ne0 w ↦ rw w.found-is (inside_more _ _ _ _ _ l.b l.invariant w.around.ensures)
      | else-inside-ne0 w ↦ rw w.found-is (inside_skip _ _ _ _ _ l.b l.invariant w.if-inside-ne0.false)
    ]

pub returns : goal.returns
returns c =
    let e : c.loop-b.b ≡ most_reply_states = omega arith in
    inside_all _ _ _ _ _ (rw e at c.loop-b.invariant)
