-- What the functions behind the losing reply give.
use Rattle.std.specs.Prelude.{cond, List, ℕ, ◌+◌, ◌≤◌, ltb, drop, None, Some, Ok, Err}
use Rattle.effects.specs.Effect.{most_counted}
use Rattle.effects.specs.declared.Shortest.{Shortest}
use Rattle.effects.specs.declared.Shortest.TheVariants.{Unreached, Tags, Longer}
use Rattle.contents.specs.Contents.{record_bytes}
use Rattle.job.specs.declared.refusal.Refusal.TheVariants.{TooLong, NoRoom}
use Rattle.game.specs.Job.{game_of, record_of}
use Rattle.game.specs.Held.{held}
use Rattle.losing.specs.Inner.Found.{OutcomeFound}
use Rattle.play.specs.Play.{held_of}
use Rattle.play.specs.Moves.{tag_at}
use Rattle.play.specs.declared.Play.{Play}
use Rattle.play_losing.specs.LosingAnswer.{LosingAnswer}

-- the answer by what was found, with room for so many bytes
abbrev pub answer_of : Shortest → ℕ → LosingAnswer
answer_of Unreached room = Ok None
answer_of (Tags n) room = cond (ltb room n) (Err NoRoom) (Ok (Some n))
answer_of Longer room = Err TooLong

-- what is found at the next tag, by what the play holds
abbrev pub FoundAt : List ℕ → Play → List ℕ → Shortest → List ℕ → Type 0
FoundAt file p buffer r left =
    let G = game_of file in
    OutcomeFound (held G) (tag_at (record_bytes file) p) (drop (p.position + 1) (record_of file)) (held_of p) buffer r left

-- a length that is given is one that is counted
abbrev pub ReplyCounted : LosingAnswer → Type 0
ReplyCounted (Ok None) = Unit {0}
ReplyCounted (Ok (Some n)) = n ≤ most_counted
ReplyCounted (Err e) = Unit {0}
