use mathlib.Core.Path.{◌≡◌, sym, ◌∙◌}
use native.Mathlib.Omega.{arith}
use Rattle.automata.specs.TargetBody.{target_of}
use Rattle.relaxation.proofs.AroundLaws.{code_more, code_skip, code_all}
use Rattle.relaxation.proofs.found.Found.around_code.Goals as goal
use Rattle.relaxation.proofs.found.Found.around_code.Goals.{else-open_to-y, then-open_to-y}

pub loop-q-preserved : goal.loop-q-preserved
loop-q-preserved c =
    let l = c.loop-q in
    let there = c.open_to.ensures.is in
    elim c.if-open_to-y.branch [
      | then-open_to-y w ↦ rw w.self-is
          (code_more _ _ _ _ _ _ _ l.q l.invariant _ (sym there ∙ w.if-open_to-y.true) w.image-mask.ensures w.around_state.ensures)
      | else-open_to-y w ↦ rw w.self-is (code_skip _ _ _ _ _ _ _ l.q l.invariant (λ e. w.if-open_to-y.false (there ∙ e)))
    ]

pub returns : goal.returns
returns c =
    let e : c.loop-q.q ≡ (target_of c.args.elements.target.bytes.now).states = omega arith in
    code_all _ _ _ _ _ _ _ c.requires.2 (rw e at c.loop-q.invariant)
