-- The losing reply of a play that calls have led to, measured by what they spell (SPEC 13.1 to 13.4).
use Rattle.std.specs.Prelude.{◌↔◌, List, ℕ, ◌+◌, drop}
use Rattle.losing.specs.LosingReply.{FetchOutcome, OutcomeIs}
use Rattle.play_losing.specs.LosingAnswer.{FetchAsked, OutcomeAt}
use Rattle.play.specs.declared.Play.{Play}
use Rattle.demand.specs.Kind.{Kind}
use Rattle.demand.specs.Demand.{SpellingAt, next_tag}
use Rattle.demand.specs.Replacing.{replacing_in}

-- what a fetch comes to at the next tag, in the game on words, where F is spelled
abbrev pub OutcomeOn : (K : Kind) → SpellingAt K → FetchOutcome → Type 0
OutcomeOn K F a = OutcomeIs K.words (next_tag K F) (drop (F.position + 1) K.tags) F.spelling a

-- where a fetch is allowed, it comes to the same by what the play holds and by what is spelled
abbrev pub OutcomeSame : (file : List ℕ) → Play → SpellingAt (replacing_in file) → Type 0
OutcomeSame file p F = FetchAsked file p → (a : FetchOutcome) → OutcomeAt file p a ↔ OutcomeOn (replacing_in file) F a
