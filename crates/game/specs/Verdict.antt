-- Demand 2: the verdict, by strategies and replies (SPEC 4.5).
use Rattle.std.specs.Prelude.{◌≡◌, ◌↔◌, List, ℕ}
use Rattle.words.specs.Tag.{Word}
use Rattle.job.specs.File.{file_refusal}
use Rattle.job.specs.Refusal.{RefusalOr}
use Rattle.game.specs.Arena.{Won, Lost}
use Rattle.game.specs.Game.{Game}
use Rattle.game.specs.Spelled.{unspelled, spelled}
use Rattle.game.specs.Job.{game_of, record_of}

-- the record is won, and lost, from its start: nothing is spelled yet
abbrev pub RecordWon : Game → Word → Type 0
RecordWon G w = Won (spelled G) w unspelled

abbrev pub RecordLost : Game → Word → Type 0
RecordLost G w = Lost (spelled G) w unspelled

-- 1 for yes and 0 for no (SPEC 8.7)
pub record YesOrNo (Yes No : Type 0) (r : ℕ) : Type 0 where
  pub yes : (r ≡ 1) ↔ Yes
  pub no : (r ≡ 0) ↔ No

-- what the verdict answers for any file: its refusal, else yes or no. Exactly one number does: `verdict_exactly`.
abbrev pub VerdictOf : List ℕ → ℕ → Type 0
VerdictOf file =
    RefusalOr (file_refusal file) (YesOrNo (RecordWon (game_of file) (record_of file)) (RecordLost (game_of file) (record_of file)))
