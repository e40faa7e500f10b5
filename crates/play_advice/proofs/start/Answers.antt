-- `start` meets its contract: the file's refusal, or the play at the start of its target's run.
use mathlib.Core.Path.{◌≡◌, sym, ◌∙◌}
use mathlib.Core.Logic.{if_neg}
use native.Mathlib.Decide.{ℕ_discrete}
use Rattle.job.specs.File.{file_refusal}
use Rattle.job.proofs.RefusalNumbers.{number_positive}
use Rattle.play_advice.specs.Start.{file_start}
use Rattle.play_advice.proofs.StartLaws.{begun_on}
use Rattle.play_advice.proofs.start.Goals as goal

pub returns-in-Ok : goal.returns-in-Ok
returns-in-Ok c =
    let ok = c.in-Ok.ensures.offsets_are_of.accepted in
    record { answer = ok; play = c.begun.ensures ∙ begun_on c.args.file.now _ ok (rw c.accepted.ensures at c.target.ensures) }

pub returns-in-Err : goal.returns-in-Err
unfolding file_start
returns-in-Err c =
    let file = c.args.file.now in
    let n : ¬ (file_refusal file ≡ 0) = λ z. number_positive _ (sym c.in-Err.ensures ∙ z) in
    record { answer = c.in-Err.ensures; play = c.nowhere.ensures ∙ sym (if_neg (ℕ_discrete (file_refusal file) 0) n _ _) }
