use mathlib.Core.Path.{◌≡◌, subst}
use mathlib.Core.Bool.{true}
use mathlib.Core.Logic.{inl}
use Prim.Native.Nat.{ℕ, ◌+◌}
use native.Mathlib.Omega.{arith}
use Rattle.automata.specs.Target.{Target}
use Rattle.automata.specs.TargetBody.{target_of}
use Rattle.automata.specs.Reply.{Form}
use Rattle.automata.proofs.TargetTables.{few_target_states}
use Rattle.effects.specs.Effects.{no_effects}
use Rattle.effects.specs.Inner.WithForm.{WithForm}
use Rattle.effects.proofs.EffectLaws.{EffectsBelow, effects_none, effects_more, effects_all}
use Rattle.contents.specs.Contents.{has_form, target_body}
use Rattle.contents.proofs.ContentLaws.{form_between, form_list_at, form_list_has}
use Rattle.job.specs.File.{form_in}
use Rattle.job.proofs.loader.effects_in.Goals as goal

-- below 12 no code has a form
first_effects : (A : Target) (forms : ℕ → Form) → EffectsBelow A has_form forms 12 no_effects
first_effects A forms =
    let e = effects_none A has_form forms in
    record {
      exact = λ c q s l t. absurd (let k = (form_between c t).0 in omega arith);
      nothing = λ c q s hq hs o. e.nothing c q s hq hs (inl (omega arith));
      sized = e.sized;
      numbered = e.numbered;
    }

pub loop-c-init : goal.loop-c-init
loop-c-init c = rw c.none-effects.ensures (first_effects _ _)

pub form-requires : goal.form-requires
form-requires c = form_list_has c.loop-c.c-index c.loop-c-test.true

pub invariant_of-form : goal.invariant_of-form
invariant_of-form c =
    record { valid = rw c.form.ensures (c.requires.valid_forms _ (form_list_has c.loop-c.c-index c.loop-c-test.true)) }

pub loop-c-preserved : goal.loop-c-preserved
loop-c-preserved c =
    let turn = c.loop-c in
    let file = c.args.bodies.file.now in
    let A = target_of (target_body file) in
    let forms = form_in file in
    let at = form_list_at turn.c-index c.loop-c-test.true in
    let form : has_form (12 + turn.c-index) ≡ true = rw at at (form_list_has turn.c-index c.loop-c-test.true) in
    let added : WithForm A (forms (12 + turn.c-index)) (12 + turn.c-index) turn.effects c.with_form-effects.result =
    rw (c.target.ensures, c.form.ensures, at) at c.with_form-effects.ensures in
    let few = few_target_states _ c.requires.valid_target in
    subst (λ n. EffectsBelow A has_form forms n c.with_form-effects.result) (omega arith)
    (effects_more A has_form forms (12 + turn.c-index) turn.effects turn.invariant few _ form added)

pub returns : goal.returns
returns c =
    let last = c.loop-c in
    let e : 12 + last.c-index ≡ 16 = omega arith in
    effects_all _ has_form _ 16 _ (λ c t. let h = (form_between c t).1 in omega arith) (rw e at last.invariant)
