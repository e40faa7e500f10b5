use mathlib.Core.Path.{◌≡◌, refl}
use Prim.Native.Nat.{◌+◌}
use native.Mathlib.Omega.{arith}
use Rattle.automata.specs.ReplyBody.{opening_count, closing_count}
use Rattle.automata.proofs.MaskTableLaws.{puts_none, puts_long}
use Rattle.replies.proofs.RulesPut.{put_opening, put_closing}
use Rattle.replies.proofs.TransitionLaws.{compiled}
use Rattle.replies.proofs.transitions.compile_rules.Goals as goal

pub loop-i-init : goal.loop-i-init
loop-i-init c = (puts_none _ _, refl)

pub loop-i-preserved : goal.loop-i-preserved
loop-i-preserved c =
    let more = put_opening _ _ _ _ c.loop-i.invariant.0 _ (omega arith) c.opening_rule-o.ensures.0 in
    rw c.put_rule.ensures (more, puts_long _ _ _ more)

pub loop-j-init : goal.loop-j-init
loop-j-init c =
    let e : c.loop-i.i ≡ opening_count c.args.body.bytes.now + 0 = omega arith in
    rw e at c.loop-i.invariant

pub loop-j-preserved : goal.loop-j-preserved
loop-j-preserved c =
    let more = put_closing _ _ _ _ c.loop-j.invariant.0 _ c.closing_rule-c.ensures.0 in
    rw (c.put_rule-in-loop-j.ensures, c.closing_tag.ensures.0) (more, puts_long _ _ _ more)

pub returns : goal.returns
returns c =
    let b = c.args.body.bytes.now in
    let all : c.loop-j.j ≡ closing_count b = omega arith in
    compiled b c.args.body.valid 0 _ (omega arith) c.requires.1 (rw all at c.loop-j.invariant.0)
