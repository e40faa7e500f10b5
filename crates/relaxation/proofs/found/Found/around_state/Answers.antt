use mathlib.Core.Path.{◌≡◌, sym, ◌∙◌, ap}
use native.Mathlib.Omega.{arith}
use lib.ListN.{get_or}
use Rattle.automata.specs.ReplyBody.{most_reply_states}
use Rattle.relaxation.proofs.AroundLaws.{state_more, state_skip, state_all}
use Rattle.relaxation.proofs.found.Found.around_state.Goals as goal
use Rattle.relaxation.proofs.found.Found.around_state.Goals.{then-link-ne0, else-link-ne0}

pub loop-p-preserved : goal.loop-p-preserved
loop-p-preserved c =
    let l = c.loop-p in
    let links = c.args.elements.links.now in
    let here = ap (λ i. get_or links i 0) c.link_index.ensures.0 in
    elim c.if-link-ne0.branch [
      | then-link-ne0 w ↦ rw w.self-is (state_more _ _ _ _ _ _ _ l.p l.invariant _ here w.around_link.ensures)
      | else-link-ne0 w ↦ rw w.self-is (state_skip _ _ _ _ _ _ _ l.p l.invariant (sym here ∙ w.if-link-ne0.false))
    ]

pub returns : goal.returns
returns c =
    let e : c.loop-p.p ≡ most_reply_states = omega arith in
    state_all _ _ _ _ _ _ _ (omega arith) (rw e at c.loop-p.invariant)
