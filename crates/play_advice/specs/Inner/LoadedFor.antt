-- A file that is loaded for who asks of a play and lends no buffer.
use Rattle.std.specs.Prelude.{◌≡◌, List, ℕ, Result, Ok, Err}
use Rattle.job.specs.File.{file_refusal}
use Rattle.job.specs.RefusalNumber.{refusal_number, RefusedBy}
use Rattle.job.specs.declared.refusal.Refusal.{Refusal}
use Rattle.play.specs.declared.Play.{Play}
use Rattle.play_advice.specs.Advice.{advice_refusal}
use Rattle.play_advice.specs.Inner.FileEffects.{FileEffects}
use Rattle.play_advice.specs.declared.fitted.Asked.{Asked}
use Rattle.play_advice.specs.declared.fitted.Fitted.{Fitted}

-- the file's refusal; or the file with its effects, and beside them 21 or that the play fits
abbrev pub LoadedFor : List ℕ → Play → Result Asked Refusal → Type 0
LoadedFor file p (Ok a) = RefusedBy (advice_refusal file p) a.answer × (a.file.file.now ≡ file) × FileEffects file a.effects
LoadedFor file p (Err e) = (advice_refusal file p ≡ refusal_number e) × (file_refusal file ≡ refusal_number e)

-- the play with the file and its effects, or the refusal, the file's or 21
abbrev pub FittedFor : List ℕ → Play → Result Fitted Refusal → Type 0
FittedFor file p (Ok f) = (advice_refusal file p ≡ 0) × (f.play ≡ p) × (f.file.file.now ≡ file) × FileEffects file f.effects
FittedFor file p (Err e) = advice_refusal file p ≡ refusal_number e
