-- One call after another, as the functions behind the entries have them.
use Rattle.std.specs.Prelude.{◌≡◌, List, [], ◌∷◌, ◌++◌, ℕ, Option, None, Some, Result, Ok, Err}
use Rattle.job.specs.Refusal.{first_of}
use Rattle.job.specs.RefusalNumber.{refusal_number}
use Rattle.job.specs.declared.refusal.Refusal.{Refusal}
use Rattle.play.specs.Moves.{MoveCall}
use Rattle.play.specs.Inner.MoveParts.{call_of}
use Rattle.sakonite.specs.History.{written}
use Rattle.play_advice.specs.Start.{file_start}
use Rattle.play.specs.declared.Play.{Play}
use Rattle.sakonite.specs.Played.{call_rules}
use Rattle.sakonite.specs.Entries.{calls_of, history_refusal, play_at}
use Rattle.sakonite.specs.declared.history.Step.{Step}

-- the call of a step
abbrev pub call_in : Step → MoveCall
call_in s = call_of s.call

-- a step takes the first call off some bytes; where there is no step they begin with no call: they are no history, or that of none
abbrev pub StepAt : List ℕ → Option Step → Type 0
StepAt h (Some s) = written (call_in s ∷ []) ++ s.rest.now ≡ h
StepAt h None = (cs : List MoveCall) → written cs ≡ h → cs ≡ []

-- the number of the first refused call, and 0 where every call is accepted
unfoldable pub first_refused : List ℕ → (Play → MoveCall → ℕ) → Play → List MoveCall → ℕ
first_refused file room p cs = first_of (call_rules file room p cs)

-- the moves of a history, each with room for so many bytes: the play after all of them, or the first refusal
abbrev pub HistoryJudged : List ℕ → List ℕ → ℕ → Result Play Refusal → Type 0
HistoryJudged file h room (Ok p) = (first_refused file (λ q m. room) (file_start file) (calls_of h) ≡ 0) × (p ≡ play_at file h)
HistoryJudged file h room (Err e) = first_refused file (λ q m. room) (file_start file) (calls_of h) ≡ refusal_number e

-- any bytes as a history of any file, each move with room for so many bytes: the play that it leads to, or the first refusal of all
abbrev pub HistoryPlayed : List ℕ → List ℕ → ℕ → Result Play Refusal → Type 0
HistoryPlayed file h room (Ok p) = (history_refusal file h (λ q m. room) ≡ 0) × (p ≡ play_at file h)
HistoryPlayed file h room (Err e) = history_refusal file h (λ q m. room) ≡ refusal_number e
