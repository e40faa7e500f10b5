-- The effects of a file's forms.
use Rattle.std.specs.Prelude.{List, ℕ}
use Rattle.automata.specs.TargetBody.{target_of}
use Rattle.effects.specs.Effects.{EffectsOf}
use Rattle.effects.specs.declared.Effects.{Effects}
use Rattle.contents.specs.Contents.{has_form, target_body}
use Rattle.job.specs.File.{form_in}

abbrev pub FileEffects : List ℕ → Effects → Type 0
FileEffects file effects = EffectsOf (target_of (target_body file)) has_form (form_in file) effects
