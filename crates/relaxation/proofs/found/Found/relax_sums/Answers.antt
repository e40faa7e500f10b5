use mathlib.Core.Path.{◌≡◌, sym, ◌∙◌, ap}
use mathlib.Core.Bool.{true, true≢false}
use mathlib.Core.List.{List}
use Prim.Native.Nat.{ℕ, ◌+◌, ◌<◌}
use native.Mathlib.Omega.{arith}
use lib.ListN.{get_or}
use Rattle.automata.specs.Bits.{bit}
use Rattle.automata.specs.TargetBody.{most_states}
use Rattle.relaxation.specs.Inner.Pairs.{pair_of}
use Rattle.relaxation.specs.Inner.PairSet.{mask_index, Member}
use Rattle.relaxation.specs.Inner.Lengths.{length_of, capped}
use Rattle.automata.proofs.StatesLaws.{next_given, none_left}
use Rattle.relaxation.proofs.BitsRelaxed.{left_of, is_left, bits_ahead, bits_more, bits_next, bits_all}
use Rattle.relaxation.proofs.PairLaws.{member_word}
use Rattle.relaxation.proofs.found.Found.relax_sums.Goals as goal

-- a bit that is left is one of the mask, and not known
asked_for : (known : List ℕ) (x r mask s : ℕ) → s < most_states → bit (left_of (get_or known (mask_index x r) 0) mask) s ≡ true →
    (bit mask s ≡ true) × ¬ Member known x (pair_of r s)
asked_for known x r mask s h e =
    let (here, new) = is_left (get_or known (mask_index x r) 0) mask s e in
    (here, λ m. true≢false (sym (member_word known x r s h m) ∙ new))

pub sum-k-requires : goal.sum-k-requires
unfolding length_of
sum-k-requires c =
    let p = c.requires in
    let a = c.args in
    let (from, f, hf, u) = c.loop-s.invariant in
    let (n, h, later) = next_given f c.in-Some.ensures.steps in
    let low = p.firm.0.low a.x a.y (omega arith) (omega arith) p.member.0 in
    let few = p.firm.0.few in
    let asked = asked_for a.self.now.known a.x a.r a.mask c.in-Some.s h (n.there h) in
    let far = p.member.1 c.in-Some.s h asked.0 in
    let ahead = bits_ahead _ _ _ _ c.in-Some.s h (bits_next _ _ _ _ _ _ n u) a.y (omega arith) (omega arith) in
    (omega arith, omega arith)

pub relax-requires : goal.relax-requires
unfolding length_of
relax-requires c =
    let p = c.requires in
    let a = c.args in
    let (from, f, hf, u) = c.loop-s.invariant in
    let (n, h, later) = next_given f c.in-Some.ensures.steps in
    let k = c.sum-k.ensures in
    let asked = asked_for a.self.now.known a.x a.r a.mask c.in-Some.s h (n.there h) in
    let least = p.by_index c.in-Some.s h asked.0 asked.1 in
    let ahead = bits_ahead _ _ _ _ c.in-Some.s h (bits_next _ _ _ _ _ _ n u) a.y (omega arith) (omega arith) in
    (omega arith, omega arith, omega arith)

pub loop-s-preserved : goal.loop-s-preserved
unfolding length_of
loop-s-preserved c =
    let a = c.args in
    let (from, f, hf, u) = c.loop-s.invariant in
    let (n, h, later) = next_given f c.in-Some.ensures.steps in
    let before = bits_next _ _ _ _ _ _ n u in
    let asked = asked_for a.self.now.known a.x a.r a.mask c.in-Some.s h (n.there h) in
    let ahead = bits_ahead _ _ _ _ c.in-Some.s h before a.y (omega arith) (omega arith) in
    let e = c.sum-k.ensures ∙ ap (λ n. capped (length_of a.self.now.lengths a.x a.y + n)) ahead in
    (_, later, omega arith, (bits_more _ _ _ _ c.in-Some.s h before asked.0 (rw e at c.relax.ensures)))

pub returns : goal.returns
returns c =
    let (from, f, hf, u) = c.loop-s.invariant in
    bits_all _ _ _ _ (bits_next _ _ _ _ _ _ (none_left f hf c.in-None.ensures.steps) u)
