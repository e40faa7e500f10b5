-- `relaxation::found::Found::relax` meets its contract.
use mathlib.Core.Path.{refl}
use mathlib.Core.Logic.{inl, inr, ⊎_elim}
use native.Mathlib.Omega.{arith}
use Rattle.relaxation.specs.Inner.Lengths.{length_of}
use Rattle.relaxation.specs.Inner.Relaxation.{Whole}
use Rattle.relaxation.proofs.OneRelaxed.{relaxed_idle, relaxed_one}
use Rattle.relaxation.proofs.found.Found.relax.Goals as goal

pub returns-then-k-next : goal.returns-then-k-next
unfolding length_of
returns-then-k-next c =
    let a = c.args in
    let gains = c.insert.ensures in
    let whole : Whole a.self.now = record { lengths = omega arith; least = omega arith; known = omega arith } in
    rw c.min.ensures
    (relaxed_one _ _ _ _ whole a.x a.z a.k c.requires.0 c.requires.1 c.requires.2
    c.if-k-self.true gains.long gains.kept
    (λ x z hx hz n. ⊎_elim inl (λ (e, d). inr (e, d, c.if-k-next.true)) (gains.either x z hx hz n)))

pub returns-else-k-next : goal.returns-else-k-next
unfolding length_of
returns-else-k-next c =
    let a = c.args in
    let whole : Whole a.self.now = record { lengths = omega arith; least = omega arith; known = omega arith } in
    rw c.min.ensures
    (relaxed_one _ _ _ _ whole a.x a.z a.k c.requires.0 c.requires.1 c.requires.2
    c.if-k-self.true refl (λ x z m. m) (λ x z hx hz m. inl m))

pub returns-else-k-self : goal.returns-else-k-self
unfolding length_of
returns-else-k-self c =
    let a = c.args in
    relaxed_idle _ a.x a.z a.k c.if-k-self.false
