-- The parts of a move, as the functions behind the entries have them.
use Rattle.std.specs.Prelude.{◌≡◌, List, ℕ, ◌<◌, ◌≤◌, ◌^◌, length, Result, Ok, Err}
use Rattle.words.specs.Tag.{word_of}
use Rattle.words.specs.IsWord.{WithinDepth}
use Rattle.automata.specs.Small.{Small}
use Rattle.automata.specs.TargetBody.{target_of, ValidTarget}
use Rattle.job.specs.Refusal.{first_of}
use Rattle.job.specs.RefusalNumber.{refusal_number}
use Rattle.job.specs.declared.refusal.Refusal.{Refusal}
use Rattle.job.specs.Record.{most_record_depth}
use Rattle.advice.specs.Kept.{play_slots}
use Rattle.contents.specs.Contents.{record_bytes}
use Rattle.game.specs.Game.{Game}
use Rattle.game.specs.Job.{game_of}
use Rattle.fetching.specs.Inner.Forms.{FormsOf}
use Rattle.play.specs.Play.{PlayFits}
use Rattle.play.specs.Moves.{MoveCall, to_read, to_fetch, count_after, moved}
use Rattle.play.specs.MoveRules.{play_rules}
use Rattle.play.specs.declared.Play.{Play}
use Rattle.play.specs.declared.Call.{Call}
use Rattle.play.specs.declared.Call.TheVariants.{Read, Fetch}

-- a call as the code has it
abbrev pub call_of : Call → MoveCall
call_of Read = to_read
call_of (Fetch u) = to_fetch u.now

-- a fetch needs the relations of the file's forms
abbrev pub FormsFor : List ℕ → MoveCall → List ℕ → Type 0
FormsFor file to_read t = Unit {0}
FormsFor file (to_fetch u) t = FormsOf file t

-- the refusal of a call
unfoldable pub refusal_of : Game → List ℕ → Play → MoveCall → ℕ → ℕ
refusal_of G bytes p m room = first_of (play_rules G bytes p m room)

-- a play that fits a target's body and a record, as an accepted file has them, with tags left
pub record Standing (target bytes : List ℕ) (p : Play) : Type 0 where
  pub valid : ValidTarget target
  pub is_record : WithinDepth most_record_depth bytes
  pub fits : PlayFits (target_of target) (word_of bytes) p
  pub left : p.position < length bytes

-- a fetch needs an open element
abbrev pub Open : Play → MoveCall → Type 0
Open p to_read = Unit {0}
Open p (to_fetch u) = (0 < p.depth) × (p.depth ≤ play_slots)

-- a call that can be made: the number of bytes finished after it is one that the machine has
abbrev pub Replied : Play → MoveCall → Type 0
Replied p to_read = Unit {0}
Replied p (to_fetch u) = (0 < p.depth) × Small u

pub record Movable (target bytes : List ℕ) (p : Play) (m : MoveCall) : Type 0 where
  pub stands : Standing target bytes p
  pub replied : Replied p m
  pub counted : count_after p m < 2 ^ 64

-- plays at one place of the record with one finished part: they may differ in the states that they hold
pub record SameButStates (p q : Play) : Type 0 where
  pub position : p.position ≡ q.position
  pub count : p.count ≡ q.count
  pub depth : p.depth ≡ q.depth
  pub begins : p.begins ≡ q.begins

-- a call that can be made by some play at that place
pub record Writable (bytes : List ℕ) (p : Play) (m : MoveCall) : Type 0 where
  pub target : List ℕ
  pub play : Play
  pub same : SameButStates play p
  pub movable : Movable target bytes play m

-- a play put in a state
abbrev pub with_state : ℕ → Play → Play
with_state q p =
    record { position = p.position; state = q; count = p.count; depth = p.depth; kept = p.kept; begins = p.begins }

-- what a move on an accepted file answers, with room for so many bytes: the play after it, or its refusal
abbrev pub MoveJudged : List ℕ → Play → MoveCall → ℕ → Result Play Refusal → Type 0
MoveJudged file p m room (Ok q) =
    (refusal_of (game_of file) (record_bytes file) p m room ≡ 0) × (q ≡ moved (game_of file).target (record_bytes file) p m)
MoveJudged file p m room (Err e) = refusal_of (game_of file) (record_bytes file) p m room ≡ refusal_number e
