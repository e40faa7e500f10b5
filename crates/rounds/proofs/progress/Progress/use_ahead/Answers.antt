use mathlib.Core.Path.{◌∙◌, ap}
use Rattle.rounds.proofs.UsingLaws.{ahead_more, ahead_next, ahead_all}
use Rattle.rounds.proofs.progress.Progress.use_ahead.Goals as goal

pub loop-y-preserved : goal.loop-y-preserved
loop-y-preserved c =
    let (et, ex, u) = c.loop-y.invariant in
    let (st, sx, (s, h, sf)) = c.in-Some.ensures.steps in
    let n = rw (et, ex) at s in (
      ap (λ t. t.now) st ∙ et,
      sx ∙ ex,
      rw sf (ahead_more _ _ _ c.requires.2 c.in-Some.y (ahead_next _ _ _ _ _ _ n u) h c.requires.0 c.requires.1 (n.there h)
          c.join.ensures),
    )

pub returns : goal.returns
returns c =
    let (et, ex, u) = c.loop-y.invariant in
    ahead_all _ _ _ _ (ahead_next _ _ _ _ _ _ (rw (et, ex) at c.in-None.ensures.steps.2) u)
