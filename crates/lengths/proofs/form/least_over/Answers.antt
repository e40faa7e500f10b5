use mathlib.Core.Path.{sym, ◌∙◌}
use mathlib.Core.Bool.{true≢false}
use Rattle.relaxation.specs.Inner.Lengths.{length_of}
use Rattle.relaxation.proofs.LeastLaws.{least_min, least_keep}
use Rattle.lengths.proofs.form.least_over.Goals as goal
use Rattle.lengths.proofs.form.least_over.Goals.{else-has, then-has}

pub loop-r-preserved : goal.loop-r-preserved
unfolding length_of
loop-r-preserved c =
    let l = c.loop-r in
    let test = sym c.has.ensures in
    elim c.if-has.branch [
      | then-has w ↦ rw (w.k-is, w.min-k.ensures) (least_min _ _ l.invariant (test ∙ w.if-has.true))
      | else-has w ↦ rw w.k-is (least_keep _ _ l.invariant (λ h. absurd (true≢false (sym h ∙ (test ∙ w.if-has.false)))))
    ]
