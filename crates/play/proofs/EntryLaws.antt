-- From an accepted file's moves to any file's: the file's refusals come first, and where there is none the move's decide.
use mathlib.Core.Path.{◌≡◌, sym, ◌∙◌}
use mathlib.Core.Logic.{◌↔◌, if_pos, if_neg}
use mathlib.Core.List.{List, ◌++◌}
use Prim.Native.Nat.{ℕ}
use native.Mathlib.Decide.{ℕ_discrete}
use lib.ListN.{length}
use Rattle.std.specs.Prelude.{Ok, Err}
use Rattle.contents.specs.Contents.{record_bytes}
use Rattle.job.specs.Refusal.{RefusalRule, first_of, Given}
use Rattle.job.specs.RefusalNumber.{refusal_number}
use Rattle.job.specs.File.{file_rules, file_refusal}
use Rattle.job.specs.declared.refusal.Refusal.{Refusal}
use Rattle.job.proofs.Refusals.{given, first_passed, append_passed, append_refused}
use Rattle.job.proofs.Accepted.{numbered, is_accepted}
use Rattle.job.proofs.RefusalNumbers.{number_positive}
use Rattle.game.specs.Job.{game_of, record_of}
use Rattle.game.proofs.Determined.{file_closed}
use Rattle.play.specs.Entries.{file_move_refusal, file_play, file_buffer, MoveOf}
use Rattle.play.specs.Moves.{MoveCall, moved, with_piece}
use Rattle.play.specs.MoveRules.{play_rules}
use Rattle.play.specs.Inner.MoveParts.{refusal_of}
use Rattle.play.specs.Inner.MoveMade.{MoveMade}
use Rattle.play.specs.declared.Play.{Play}
use Rattle.play.proofs.SoundPlay.{Playable}
use Rattle.play.proofs.MoveRefusals.{Passes, refusal_passes}

-- any rules after a file's: those of a refused file are never asked, and those of an accepted one decide
module _ (file : List ℕ) (rs : List RefusalRule) where
  pub file_first : ¬ (file_refusal file ≡ 0) → first_of (file_rules file ++ rs) ≡ file_refusal file
  unfolding file_refusal
  file_first n = append_refused (file_rules file) rs n

  pub file_passed : file_refusal file ≡ 0 → first_of (file_rules file ++ rs) ≡ first_of rs
  unfolding file_refusal
  file_passed z = append_passed (file_rules file) rs (first_passed (file_rules file) (numbered file) z)

-- the record of an accepted file can be played
pub file_playable : (file : List ℕ) → file_refusal file ≡ 0 → Playable (game_of file).target (record_of file)
file_playable file ok =
    let r = (is_accepted file ok).bodies.is_record in
    record { closed_target = file_closed file ok; nested = r.word.nested; shallow = r.shallow }

-- a move on any file: refused first by the file, then as its own rules say
module _ (file : List ℕ) (p : Play) (m : MoveCall) where
  pub refused_file : (room : ℕ) (e : Refusal) → file_refusal file ≡ refusal_number e → file_move_refusal file p m room ≡ refusal_number e
  unfolding file_move_refusal
  refused_file room e k =
      file_first file (play_rules (game_of file) (record_bytes file) p m room) (λ z. number_positive e (sym k ∙ z)) ∙ k

  pub own_number : file_refusal file ≡ 0 → (room : ℕ) → file_move_refusal file p m room ≡
      refusal_of (game_of file) (record_bytes file) p m room
  unfolding file_move_refusal refusal_of
  own_number z room = file_passed file (play_rules (game_of file) (record_bytes file) p m room) z

  pub move_passes : file_refusal file ≡ 0 → (room : ℕ) →
      (file_move_refusal file p m room ≡ 0) ↔ Passes (game_of file) (record_bytes file) p m room
  move_passes z room =
      let i = refusal_passes (game_of file) (record_bytes file) p m room in
      (λ e. i.0 (sym (own_number z room) ∙ e), λ x. own_number z room ∙ i.1 x)

  -- an accepted move leads to the next play, and a refused one leaves the play as it came
  abbrev next : Play
  next = moved (game_of file).target (record_bytes file) p m

  pub next_play : (room : ℕ) → file_move_refusal file p m room ≡ 0 → file_play file p m room ≡ next
  unfolding file_play
  next_play room z = if_pos (ℕ_discrete (file_move_refusal file p m room) 0) z next p

  same_play : (room : ℕ) → ¬ (file_move_refusal file p m room ≡ 0) → file_play file p m room ≡ p
  unfolding file_play
  same_play room n = if_neg (ℕ_discrete (file_move_refusal file p m room) 0) n next p

  module _ (buffer : List ℕ) where
    abbrev zero? : Dec (file_move_refusal file p m (length buffer) ≡ 0)
    zero? = ℕ_discrete (file_move_refusal file p m (length buffer)) 0

    pub next_buffer : file_move_refusal file p m (length buffer) ≡ 0 →
        file_buffer file p m buffer ≡ with_piece (record_bytes file) p m buffer
    unfolding file_buffer
    next_buffer z = if_pos zero? z (with_piece (record_bytes file) p m buffer) buffer

    same_buffer : ¬ (file_move_refusal file p m (length buffer) ≡ 0) → file_buffer file p m buffer ≡ buffer
    unfolding file_buffer
    same_buffer n = if_neg zero? n (with_piece (record_bytes file) p m buffer) buffer

    pub move_refused : (e : Refusal) → file_move_refusal file p m (length buffer) ≡ refusal_number e →
        MoveOf file p m buffer (record { play = p; answer = Err e }) buffer
    move_refused e k =
        let n : ¬ (file_move_refusal file p m (length buffer) ≡ 0) = λ z. number_positive e (sym k ∙ z) in
        record { answer = k; play = sym (same_play (length buffer) n); bytes = sym (same_buffer n) }

    pub move_made : (q : Play) (left : List ℕ) → MoveMade file p m buffer (Ok q) left →
        MoveOf file p m buffer (record { play = q; answer = Ok tt }) left
    move_made q left k =
        record { answer = k.0; play = k.1 ∙ sym (next_play (length buffer) k.0); bytes = k.2 ∙ sym (next_buffer k.0) }

-- Each number is given to a move exactly when its own condition holds and none before it does, the file's included.
pub move_given : (file : List ℕ) (p : Play) (m : MoveCall) (room n : ℕ) → (n ≡ 0 → ⊥) →
    (file_move_refusal file p m room ≡ n) ↔ Given (file_rules file ++ play_rules (game_of file) (record_bytes file) p m room) n
unfolding file_move_refusal
move_given file p m room n z = given (file_rules file ++ play_rules (game_of file) (record_bytes file) p m room) n z
