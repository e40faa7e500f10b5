use mathlib.Core.Path.{◌∙◌, ap}
use Rattle.automata.proofs.TargetTables.{few_target_states}
use Rattle.rounds.proofs.UsingLaws.{rows_more, rows_next, rows_all}
use Rattle.rounds.proofs.progress.Progress.use_rows.Goals as goal

pub loop-x-preserved : goal.loop-x-preserved
loop-x-preserved c =
    let p = c.requires in
    let (et, ex, u) = c.loop-x.invariant in
    let (st, sx, (s, h, sf)) = c.in-Some.ensures.steps in
    let n = rw (et, ex) at s in (
      ap (λ t. t.now) st ∙ et,
      sx ∙ ex,
      rw sf (rows_more _ _ _ _ _ c.in-Some.x h
          (rows_next _ _ _ _ _ c.args.rows.now _ (few_target_states _ c.args.elements.target.valid) p.3 _ _ n u)
          p.0 p.1 p.2 c.use_row.ensures),
    )

pub returns : goal.returns
returns c =
    let (et, ex, u) = c.loop-x.invariant in
    rows_all _ _ _ _ _ _ _
    (rows_next _ _ _ _ _ c.args.rows.now _ (few_target_states _ c.args.elements.target.valid) c.requires.3 _ _
    (rw (et, ex) at c.in-None.ensures.steps.2) u)
