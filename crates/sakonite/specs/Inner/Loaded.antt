-- What the functions behind the entries give before it is a number.
use Rattle.std.specs.Prelude.{◌≡◌, List, ℕ, ◌*◌, ◌≤◌, Result, Ok, Err}
use Rattle.words.specs.Inner.Nesting.{most_tags}
use Rattle.job.specs.RefusalNumber.{refusal_number}
use Rattle.job.specs.declared.refusal.Refusal.{Refusal}
use Rattle.play_advice.specs.Start.{file_start}
use Rattle.play_advice.specs.declared.fitted.Fitted.{Fitted}
use Rattle.sakonite.specs.Played.{ample, buffer_after}
use Rattle.sakonite.specs.Entries.{calls_of, history_refusal, play_at, finished_refusal}

-- the play after a history with its file; or the first refusal
abbrev pub LoadedAfter : List ℕ → List ℕ → Result Fitted Refusal → Type 0
LoadedAfter file h (Ok f) = (history_refusal file h ample ≡ 0) × (f.play ≡ play_at file h) × (f.file.file.now ≡ file)
LoadedAfter file h (Err e) = history_refusal file h ample ≡ refusal_number e

-- the finished count after a history, which no number overflows, with its bytes in the buffer; or the first refusal, with which nothing is
-- written
abbrev pub FinishedCount : List ℕ → List ℕ → List ℕ → Result ℕ Refusal → List ℕ → Type 0
FinishedCount file h buffer (Ok count) left =
    (finished_refusal file h buffer ≡ 0) × (count ≡ (play_at file h).count) × (count ≤ most_tags * most_tags)
    × (left ≡ buffer_after file (file_start file) buffer (calls_of h))
FinishedCount file h buffer (Err e) left = (finished_refusal file h buffer ≡ refusal_number e) × (left ≡ buffer)
