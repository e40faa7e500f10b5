-- A move on any file, as the function behind the entries makes it.
use Rattle.std.specs.Prelude.{◌≡◌, List, ℕ, length, Result, Ok, Err}
use Rattle.contents.specs.Contents.{record_bytes}
use Rattle.job.specs.RefusalNumber.{refusal_number}
use Rattle.job.specs.declared.refusal.Refusal.{Refusal}
use Rattle.game.specs.Job.{game_of}
use Rattle.play.specs.Moves.{MoveCall, with_piece, moved}
use Rattle.play.specs.Entries.{file_move_refusal}
use Rattle.play.specs.declared.Play.{Play}

-- the play after the move, whose piece is in the buffer; or the refusal, with which the buffer is as it was
abbrev pub MoveMade : List ℕ → Play → MoveCall → List ℕ → Result Play Refusal → List ℕ → Type 0
MoveMade file p m buffer (Ok q) left =
    (file_move_refusal file p m (length buffer) ≡ 0) × (q ≡ moved (game_of file).target (record_bytes file) p m)
    × (left ≡ with_piece (record_bytes file) p m buffer)
MoveMade file p m buffer (Err e) left = (file_move_refusal file p m (length buffer) ≡ refusal_number e) × (left ≡ buffer)
