use native.Mathlib.Omega.{arith}
use lib.ListN.{get_or}
use Rattle.relaxation.specs.Inner.PairSet.{mask_index}
use Rattle.automata.proofs.StatesLaws.{next_given, none_left}
use Rattle.relaxation.proofs.BitsRelaxed.{is_left, bits_more, bits_next, bits_all}
use Rattle.relaxation.proofs.found.Found.relax_ends.Goals as goal

pub loop-s-preserved : goal.loop-s-preserved
loop-s-preserved c =
    let a = c.args in
    let (from, f, hf, u) = c.loop-s.invariant in
    let (n, h, later) = next_given f c.in-Some.ensures.steps in
    let (here, new) = is_left (get_or a.self.now.known (mask_index a.x a.r) 0) a.mask c.in-Some.s (n.there h) in
    (_, later, omega arith, (bits_more _ _ _ _ c.in-Some.s h (bits_next _ _ _ _ _ _ n u) here c.relax.ensures))

pub returns : goal.returns
returns c =
    let (from, f, hf, u) = c.loop-s.invariant in
    bits_all _ _ _ _ (bits_next _ _ _ _ _ _ (none_left f hf c.in-None.ensures.steps) u)
