use mathlib.Core.Path.{sym, ◌∙◌}
use mathlib.Core.Bool.{true≢false}
use native.Mathlib.Omega.{arith}
use native.Mathlib.Decide.{dec_lt}
use Rattle.automata.specs.ReplyBody.{most_reply_states}
use Rattle.automata.proofs.BitLaws.{bit_beyond}
use Rattle.automata.proofs.StatesLaws.{next_given, none_left}
use Rattle.relaxation.proofs.AroundLaws.{link_more, link_next, link_all}
use Rattle.relaxation.proofs.found.Found.around_link.Goals as goal

pub relax_ends-requires : goal.relax_ends-requires
relax_ends-requires c =
    let (from, f, hf, u) = c.loop-r.invariant in
    let (n, h, later) = next_given f c.in-Some.ensures.steps in
    let r = c.in-Some.r in (
      c.requires,
      elim (dec_lt r most_reply_states) [
        | yes l ↦ l
        | no l ↦ absurd (true≢false (sym (n.there h) ∙ bit_beyond 8 c.args.link r (omega arith) (omega arith)))
      ],
    )

pub loop-r-preserved : goal.loop-r-preserved
loop-r-preserved c =
    let (from, f, hf, u) = c.loop-r.invariant in
    let (n, h, later) = next_given f c.in-Some.ensures.steps in
    (_, later, omega arith, (link_more _ _ _ _ c.in-Some.r (link_next _ _ _ _ _ u _ n) (n.there h) c.relax_ends.ensures))

pub returns : goal.returns
returns c =
    let (from, f, hf, u) = c.loop-r.invariant in
    link_all _ _ _ _ _ (omega arith) (link_next _ _ _ _ _ u _ (none_left f hf c.in-None.ensures.steps))
