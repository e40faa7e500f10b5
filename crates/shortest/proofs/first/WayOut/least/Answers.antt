use Rattle.std.proofs.Common.{sym, ◌∙◌, arith}
use Rattle.automata.specs.ReplyBody.{form_of}
use Rattle.shortest.proofs.LeastOutsideLaws.{below_skip, below_least}
use Rattle.shortest.proofs.first.WayOut.least.Goals as goal
use Rattle.shortest.proofs.first.WayOut.least.Goals.{else-not-has, then-not-has}

pub loop-s-preserved : goal.loop-s-preserved
loop-s-preserved c =
    let l = c.loop-s in
    let F = (form_of c.args.self.reply.bytes.now).accepting in
    elim c.if-not-has.branch [
      | then-not-has w ↦ rw (w.least-is, w.min-least.ensures)
          (below_least F _ _ _ l.s _ l.invariant _ _ (omega arith) c.accepting-accepted.ensures.0 w.least_over-found.ensures
          (sym c.has.ensures ∙ w.if-not-has.true))
      | else-not-has w ↦ rw w.least-is (below_skip F _ _ _ l.s _ l.invariant (sym c.has.ensures ∙ w.if-not-has.false))
    ]
