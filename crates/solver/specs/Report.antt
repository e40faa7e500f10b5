-- The verdict on a file with what it rests on: the number of the target's states, and the effects.
use Rattle.std.specs.Prelude.{◌≡◌, List, ℕ, Result, Ok, Err}
use Rattle.effects.specs.Effects.{EffectsOf}
use Rattle.contents.specs.Contents.{has_form}
use Rattle.job.specs.File.{file_refusal}
use Rattle.job.specs.RefusalNumber.{refusal_number}
use Rattle.job.specs.declared.refusal.Refusal.{Refusal}
use Rattle.game.specs.Job.{game_of}
use Rattle.game.specs.Verdict.{VerdictOf}
use Rattle.solver.specs.VerdictNumber.{verdict_number}
use Rattle.solver.specs.declared.verdict.Report.{Report}

-- the report on an accepted file
pub record ReportIs (file : List ℕ) (r : Report) : Type 0 where
  pub accepted : file_refusal file ≡ 0
  pub verdict : VerdictOf file (verdict_number (Ok r.won))
  pub states : r.states ≡ (game_of file).target.states
  pub effects : EffectsOf (game_of file).target has_form (game_of file).forms r.effects

-- exactly one answer is right: `report_exactly`; of a refused file there is the refusal and nothing more
abbrev pub ReportOf : List ℕ → Result Report Refusal → Type 0
ReportOf file (Ok r) = ReportIs file r
ReportOf file (Err e) = file_refusal file ≡ refusal_number e
