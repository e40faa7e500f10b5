-- What the entries that take a history answer, for any bytes whatever; and the version.
use Rattle.std.specs.Prelude.{◌≡◌, List, [], ◌∷◌, ◌++◌, ℕ, ◌+◌, length}
use Rattle.words.specs.Decide.Deciders.{not?}
use Rattle.job.specs.Refusal.{RefusalRule, rule, first_of, RefusalOr, unless_refused}
use Rattle.job.specs.File.{file_rules}
use Rattle.game.specs.Job.{game_of, record_of}
use Rattle.game.specs.Advice.{AdviceIs}
use Rattle.play.specs.Moves.{MoveCall}
use Rattle.play.specs.Play.{held_of, tags_left}
use Rattle.play_losing.specs.LosingAnswer.{length_base}
use Rattle.play_advice.specs.Start.{file_start}
use Rattle.play.specs.declared.Play.{Play}
use Rattle.sakonite.specs.History.{IsHistory}
use Rattle.sakonite.specs.Decide.History.{is_history?}
use Rattle.sakonite.specs.Played.{call_rules, play_after, buffer_after, ample}

-- the calls of a history, of which there is one list (`calls_unique`); of other bytes none
unfoldable pub calls_of : List ℕ → List MoveCall
calls_of h = elim (is_history? h) [ yes x ↦ x.0 | no _ ↦ [] ]

-- 20: bytes that are no history (SPEC 7.20)
abbrev pub rule20 : List ℕ → RefusalRule
rule20 h = rule 20 (¬ IsHistory h) (not? (is_history? h))

-- the refusals in their order: the file's, then 20, then those of the calls, each with room for so many bytes (SPEC 8.11)
unfoldable pub history_rules : List ℕ → List ℕ → (Play → MoveCall → ℕ) → List RefusalRule
history_rules file history room = file_rules file ++ (rule20 history ∷ call_rules file room (file_start file) (calls_of history))

unfoldable pub history_refusal : List ℕ → List ℕ → (Play → MoveCall → ℕ) → ℕ
history_refusal file history room = first_of (history_rules file history room)

-- the play that a history leads to; the empty one leads to the start (SPEC 8.10)
abbrev pub play_at : List ℕ → List ℕ → Play
play_at file history = play_after file (file_start file) (calls_of history)

-- the advice after a history, or the refusal (SPEC 8.8). Exactly one number is it: `advice_after_exactly`.
abbrev pub AdviceAfter : List ℕ → List ℕ → ℕ → Type 0
AdviceAfter file history =
    let p = play_at file history in
    RefusalOr (history_refusal file history ample) (AdviceIs (game_of file) (tags_left (record_of file) p) (held_of p))

-- the finished part after a history in a lent buffer: calls are judged with the buffer's room (SPEC 8.13)
abbrev pub finished_refusal : List ℕ → List ℕ → List ℕ → ℕ
finished_refusal file history buffer = history_refusal file history (λ p m. length buffer)

-- what is added to the length of the finished part, so that the number is no refusal's (SPEC 8.9)
abbrev pub finished_base : ℕ
finished_base = length_base

-- the length of the finished part, so raised, or the refusal
unfoldable pub finished_number : List ℕ → List ℕ → List ℕ → ℕ
finished_number file history buffer =
    let number = finished_refusal file history buffer in
    unless_refused number (finished_base + (play_at file history).count) number

-- every byte of the buffer afterwards; a refusal writes nothing (SPEC 8.14)
unfoldable pub finished_buffer : List ℕ → List ℕ → List ℕ → List ℕ
finished_buffer file history buffer =
    unless_refused (finished_refusal file history buffer) (buffer_after file (file_start file) buffer (calls_of history)) buffer

pub record FinishedAfter (file history buffer : List ℕ) (r : ℕ) (left : List ℕ) : Type 0 where
  pub number : r ≡ finished_number file history buffer
  pub bytes : left ≡ finished_buffer file history buffer

-- the version, 0.5.0: 10,000 times its first number, 100 times its second, and its third (SPEC 14.17)
abbrev pub version : ℕ
version = 500
