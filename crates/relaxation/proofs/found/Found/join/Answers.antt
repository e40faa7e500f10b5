use mathlib.Core.Path.{◌≡◌}
use native.Mathlib.Omega.{arith}
use Rattle.automata.specs.ReplyBody.{most_reply_states}
use Rattle.relaxation.proofs.JoinLaws.{join_more, join_all}
use Rattle.relaxation.proofs.found.Found.join.Goals as goal

pub loop-r-preserved : goal.loop-r-preserved
loop-r-preserved c =
    let l = c.loop-r in
    let a = c.args in
    let p = c.requires in
    join_more a.self.now a.members.now a.x a.y p.firm.0 (omega arith) (omega arith) p.member.0 l.r (omega arith) l.invariant
    c.relax_sums.ensures

pub returns : goal.returns
returns c =
    let e : c.loop-r.r ≡ most_reply_states = omega arith in
    join_all _ _ _ _ most_reply_states (λ z h. omega arith) (rw e at c.loop-r.invariant)
