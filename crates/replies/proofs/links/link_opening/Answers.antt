use mathlib.Core.Path.{◌≡◌, ◌∙◌}
use native.Mathlib.Omega.{arith}
use Rattle.automata.specs.ReplyBody.{closing_count}
use Rattle.automata.specs.Inner.FormState.{IsFormState}
use Rattle.automata.proofs.MaskTableLaws.{puts_none, puts_long}
use Rattle.replies.specs.Inner.Linking.{linkings}
use Rattle.replies.proofs.LinkLaws.{link_skip, link_more, state_mask}
use Rattle.replies.proofs.links.link_opening.Goals as goal
use Rattle.replies.proofs.links.link_opening.Goals.{then-o-c+then-o-c-2, else-o-c, else-o-c-via-then-o-c+else-o-c-2, else-o-c-via-else-o-c}

pub loop-j-init : goal.loop-j-init
loop-j-init c = (puts_none _ _, c.requires.1)

pub loop-j-preserved : goal.loop-j-preserved
loop-j-preserved c =
    let (k, long) = c.loop-j.invariant in
    let ho = c.opening_rule-o.ensures.0 in
    let hd = c.closing_rule-c.ensures.0 in
    elim c.if-o-c.branch [
      | then-o-c+then-o-c-2 w ↦ let next_small : IsFormState c.closing_rule-c.result.next = omega arith in
          let more = link_more _ _ _ ho hd _ _ k w.if-o-c.true w.if-o-c-2.true in
          rw (w.links-is, w.link_index.ensures.0, state_mask _ next_small) (more, puts_long _ _ _ more ∙ c.requires.1)
      | else-o-c w ↦ elim w.else-o-c.branch [
        | else-o-c-via-then-o-c+else-o-c-2 v ↦ rw w.links-is (link_skip _ _ _ ho hd _ _ k (λ x y. v.if-o-c-2.false y), long)
        | else-o-c-via-else-o-c v ↦ rw w.links-is (link_skip _ _ _ ho hd _ _ k (λ x y. v.if-o-c.false x), long)
      ]
    ]

pub returns : goal.returns
unfolding linkings
returns c =
    let e : c.loop-j.j ≡ closing_count c.args.body.bytes.now = omega arith in
    rw e at c.loop-j.invariant.0
