-- What a move answers and leaves, for any file, any play and any buffer.
use Rattle.std.specs.Prelude.{◌≡◌, List, ◌++◌, ℕ, length}
use Rattle.contents.specs.Contents.{record_bytes}
use Rattle.job.specs.Refusal.{first_of, unless_refused}
use Rattle.job.specs.RefusalNumber.{RefusedBy}
use Rattle.job.specs.File.{file_rules}
use Rattle.game.specs.Job.{game_of}
use Rattle.play.specs.Moves.{MoveCall, with_piece, moved}
use Rattle.play.specs.MoveRules.{play_rules}
use Rattle.play.specs.declared.moves.Moved.{Moved}
use Rattle.play.specs.declared.Play.{Play}

-- of a move: its refusal, the file's own first; the play after it; and the buffer, of which a refusal changes nothing (SPEC 7.2)
unfoldable pub file_move_refusal : List ℕ → Play → MoveCall → ℕ → ℕ
file_move_refusal file p m room = first_of (file_rules file ++ play_rules (game_of file) (record_bytes file) p m room)

unfoldable pub file_play : List ℕ → Play → MoveCall → ℕ → Play
file_play file p m room = unless_refused (file_move_refusal file p m room) (moved (game_of file).target (record_bytes file) p m) p

unfoldable pub file_buffer : List ℕ → Play → MoveCall → List ℕ → List ℕ
file_buffer file p m buffer = unless_refused (file_move_refusal file p m (length buffer)) (with_piece (record_bytes file) p m buffer) buffer

-- what a move answers for any file, play and buffer: that it is accepted, or its refusal; the play after it; and every byte of the buffer
pub record MoveOf (file : List ℕ) (p : Play) (m : MoveCall) (buffer : List ℕ) (r : Moved) (left : List ℕ) : Type 0 where
  pub answer : RefusedBy (file_move_refusal file p m (length buffer)) r.answer
  pub play : r.play ≡ file_play file p m (length buffer)
  pub bytes : left ≡ file_buffer file p m buffer
