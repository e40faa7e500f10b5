-- `job::loader::effects_in` meets its contract: the invariant has the effects of the codes passed.
use Prim.Native.Nat.{◌+◌}
use Rattle.automata.specs.TargetBody.{target_of}
use Rattle.effects.proofs.EffectLaws.{EffectsBelow}
use Rattle.contents.specs.Contents.{has_form, target_body}
use Rattle.job.specs.File.{form_in}
use Rattle.job.proofs.loader.effects_in.Given as goal

abbrev pub invariant-loop-c : goal.invariant-loop-c
invariant-loop-c l =
    EffectsBelow (target_of (target_body l.bodies.file.now)) has_form (form_in l.bodies.file.now) (12 + l.c-index) l.effects
