use mathlib.Core.Path.{◌≡◌, ◌∙◌}
use Prim.Native.Nat.{min, ◌+◌}
use native.Mathlib.Omega.{arith}
use Rattle.automata.proofs.StatesLaws.{next_given, none_given}
use Rattle.automata.specs.TargetBody.{target_of}
use Rattle.relaxation.specs.Inner.Wraps.{closing_step}
use Rattle.relaxation.proofs.ImageLaws.{image_none, image_more, image_skip_to}
use Rattle.relaxation.proofs.around.image.Goals as goal

pub loop-r-init : goal.loop-r-init
loop-r-init c =
    let e : min 0 c.states-n.result ≡ 0 = omega arith in
    rw c.into_iter-r-iterator.ensures.into_iter_gives (0, c.states_in-r-items.ensures, omega arith, rw e (image_none _ _))

pub loop-r-preserved-then-r-n : goal.loop-r-preserved-then-r-n
unfolding closing_step
loop-r-preserved-then-r-n c =
    let r = c.in-Some.r in
    let (from, f, hf, u) = c.loop-r.invariant in
    let (n, h, later) = next_given f c.in-Some.ensures.steps in
    let from = n.from_on in
    let here : min r c.states-n.result ≡ r = omega arith in
    let on : min (r + 1) c.states-n.result ≡ r + 1 = omega arith in
    let skipped = image_skip_to _ _ (min r c.states-n.result) _ _ (omega arith) u (λ i a b. n.none i (omega arith) (omega arith)) in
    let before = rw here at skipped in (
      _,
      later,
      omega arith,
      rw on (c.with-found.ensures ∙ image_more _ _ r c.loop-r.found _ before (n.there h) c.close_to.ensures.is),
    )

pub loop-r-preserved : goal.loop-r-preserved
loop-r-preserved c =
    let (from, f, hf, u) = c.loop-r.invariant in
    let (n, h, later) = next_given f c.in-Some.ensures.steps in
    (_, later, omega arith, (image_skip_to _ _ _ _ _ (omega arith) u (λ i a b. n.none i (omega arith) (omega arith))))

pub returns : goal.returns
returns c =
    let (from, f, hf, u) = c.loop-r.invariant in
    let none = none_given f c.in-None.ensures.steps in
    image_skip_to _ _ (target_of c.args.target.bytes.now).states _ _ (omega arith) u (λ i a b. none i (omega arith))
