use mathlib.Core.Path.{◌≡◌, ◌∙◌, ap}
use Prim.Native.Nat.{ℕ}
use native.Mathlib.Omega.{arith}
use lib.ListN.{length, length-replicate}
use Rattle.automata.specs.ReplyBody.{opening_count}
use Rattle.automata.proofs.MaskTableLaws.{turns_none, turns_more}
use Rattle.replies.specs.Inner.Links.{link_count}
use Rattle.replies.proofs.LinkLaws.{links_all}
use Rattle.replies.proofs.links.compile.Goals as goal

pub loop-i-init : goal.loop-i-init
loop-i-init c = (turns_none _ _, ap length c.requires ∙ length-replicate {A = ℕ} link_count 0)

pub loop-i-preserved : goal.loop-i-preserved
loop-i-preserved c =
    let linked = c.link_opening in
    let (k, long) = c.loop-i.invariant in
    (turns_more _ _ _ _ _ k linked.ensures, linked.auto.links ∙ long)

pub returns : goal.returns
returns c =
    let e : c.loop-i.i ≡ opening_count c.args.body.bytes.now = omega arith in
    links_all _ c.args.body.valid (rw (e, c.requires) at c.loop-i.invariant.0)
