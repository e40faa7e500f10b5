-- The calls of a history, made one after another: the definitions that the contracts of read and fetch cite, folded.
use Rattle.std.specs.Prelude.{List, [], ◌∷◌, ◌++◌, ℕ, ◌+◌}
use Rattle.contents.specs.Contents.{record_bytes}
use Rattle.job.specs.Refusal.{RefusalRule}
use Rattle.game.specs.Job.{game_of}
use Rattle.play.specs.Moves.{MoveCall, count_after, moved, with_piece}
use Rattle.play.specs.MoveRules.{play_rules}
use Rattle.play.specs.declared.Play.{Play}

-- on the record of a file
module _ (file : List ℕ) where
  -- the play to which a call leads
  abbrev pub moved_by : Play → MoveCall → Play
  moved_by p m = moved (game_of file).target (record_bytes file) p m

  -- the rules of each call in turn, with room for so many bytes: those of a later call are asked where no earlier rule is broken
  -- (SPEC 8.11)
  abbrev pub call_rules : (Play → MoveCall → ℕ) → Play → List MoveCall → List RefusalRule
  call_rules room p [] = []
  call_rules room p (m ∷ cs) = play_rules (game_of file) (record_bytes file) p m (room p m) ++ call_rules room (moved_by p m) cs

  -- the play after all calls, and every byte of the buffer that they were made in (SPEC 8.13)
  abbrev pub play_after : Play → List MoveCall → Play
  play_after p [] = p
  play_after p (m ∷ cs) = play_after (moved_by p m) cs

  abbrev pub buffer_after : Play → List ℕ → List MoveCall → List ℕ
  buffer_after p b [] = b
  buffer_after p b (m ∷ cs) = buffer_after (moved_by p m) (with_piece (record_bytes file) p m b) cs

-- Advice takes no buffer: there is room for the finished count before a call and for the one after, so that 24 and the buffer's part of 21
-- do not occur (SPEC 8.12).
abbrev pub ample : Play → MoveCall → ℕ
ample p m = p.count + count_after p m
