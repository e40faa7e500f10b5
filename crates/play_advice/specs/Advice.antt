-- What is advised, for any file and any play.
use Rattle.std.specs.Prelude.{List, [], ◌∷◌, ◌++◌, ℕ, Result, Ok, Err}
use Rattle.job.specs.Refusal.{RefusalRule, first_of, RefusalOr}
use Rattle.job.specs.RefusalNumber.{refusal_number}
use Rattle.job.specs.File.{file_rules}
use Rattle.job.specs.declared.refusal.Refusal.{Refusal}
use Rattle.game.specs.Job.{game_of, record_of}
use Rattle.game.specs.Advice.{AdviceIs}
use Rattle.advice.specs.AdviceNumber.{advice_number}
use Rattle.advice.specs.declared.Advised.{Advised}
use Rattle.play.specs.Play.{held_of, tags_left}
use Rattle.play.specs.MoveRules.{rule21}
use Rattle.play.specs.declared.Play.{Play}

-- the refusals of advice: it is lent no buffer, so its 21 has room for what is finished (SPEC 7.21)
abbrev pub advice_rules : List ℕ → Play → List RefusalRule
advice_rules file p = file_rules file ++ (rule21 (game_of file).target (record_of file) p p.count ∷ [])

unfoldable pub advice_refusal : List ℕ → Play → ℕ
advice_refusal file p = first_of (advice_rules file p)

-- What advice answers for any file and any play: the refusal, or the advice by what the play holds (SPEC 4.10). Exactly one number does:
-- `advice_exactly`.
abbrev pub AdviceOf : List ℕ → Play → ℕ → Type 0
AdviceOf file p = RefusalOr (advice_refusal file p) (AdviceIs (game_of file) (tags_left (record_of file) p) (held_of p))

-- an answer by its number (SPEC 11.9): the advice, or the refusal
abbrev pub advice_answer : Result Advised Refusal → ℕ
advice_answer (Ok a) = advice_number a
advice_answer (Err e) = refusal_number e
