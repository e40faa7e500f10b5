use mathlib.Core.Path.{◌∙◌, ap}
use Rattle.rounds.proofs.UsingLaws.{behind_more, behind_next, behind_all}
use Rattle.rounds.proofs.progress.Progress.use_behind.Goals as goal

pub loop-w-preserved : goal.loop-w-preserved
loop-w-preserved c =
    let (et, ex, u) = c.loop-w.invariant in
    let (st, sx, (s, h, sf)) = c.in-Some.ensures.steps in
    let n = rw (et, ex) at s in (
      ap (λ t. t.now) st ∙ et,
      sx ∙ ex,
      rw sf (behind_more _ _ _ c.requires.2 c.in-Some.w (behind_next _ _ _ _ _ _ n u) h c.requires.0 c.requires.1 (n.there h)
          c.join.ensures),
    )

pub returns : goal.returns
returns c =
    let (et, ex, u) = c.loop-w.invariant in
    behind_all _ _ _ _ (behind_next _ _ _ _ _ _ (rw (et, ex) at c.in-None.ensures.steps.2) u)
