-- What the loader gives for any file: its refusal; of an accepted file its job, that is where the bodies begin, and the effects.
use Rattle.std.specs.Prelude.{◌≡◌, List, ℕ, Result, Ok, Err}
use Rattle.automata.specs.TargetBody.{target_of}
use Rattle.effects.specs.Effects.{EffectsOf}
use Rattle.contents.specs.Contents.{has_form, target_body, offsets_of}
use Rattle.contents.specs.declared.Offsets.{Offsets}
use Rattle.job.specs.File.{form_in, file_refusal}
use Rattle.job.specs.RefusalNumber.{refusal_number}
use Rattle.job.specs.declared.loader.Job.{Job}
use Rattle.job.specs.declared.refusal.Refusal.{Refusal}

-- the offsets of the bodies, in an accepted file
pub record OffsetsOf (file : List ℕ) (p : Offsets) : Type 0 where
  pub accepted : file_refusal file ≡ 0
  pub at : p.at ≡ offsets_of file

-- the job of an accepted file
pub record JobOf (file : List ℕ) (j : Job) : Type 0 where
  pub offsets_are_of : OffsetsOf file j.offsets
  pub effects : EffectsOf (target_of (target_body file)) has_form (form_in file) j.effects

-- the job of an accepted file, or its refusal, with which nothing else comes (SPEC 7.2)
abbrev pub LoadedOf : List ℕ → Result Job Refusal → Type 0
LoadedOf file (Ok job) = JobOf file job
LoadedOf file (Err e) = file_refusal file ≡ refusal_number e
