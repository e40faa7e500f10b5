-- The play at the record's start, for any file.
use Rattle.std.specs.Prelude.{◌≡◌, List, ℕ}
use Rattle.job.specs.Refusal.{unless_refused}
use Rattle.job.specs.RefusalNumber.{RefusedBy}
use Rattle.job.specs.File.{file_refusal}
use Rattle.game.specs.Job.{game_of}
use Rattle.play.specs.Play.{start_play, nowhere}
use Rattle.play.specs.declared.moves.Moved.{Moved}
use Rattle.play.specs.declared.Play.{Play}

-- the play at the record's start (SPEC 5.2), and of a refused file the one that is nowhere
unfoldable pub file_start : List ℕ → Play
file_start file = unless_refused (file_refusal file) (start_play (game_of file).target) nowhere

-- what `start` answers for any file: that play, and the file's refusal where there is one (SPEC 8.4)
pub record StartOf (file : List ℕ) (r : Moved) : Type 0 where
  pub answer : RefusedBy (file_refusal file) r.answer
  pub play : r.play ≡ file_start file
