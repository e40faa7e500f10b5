-- What is answered to who asks for the losing reply, for any file, any play and any buffer (SPEC 13.5 to 13.7).
use Rattle.std.specs.Prelude.{◌≡◌, List, [], ◌∷◌, ◌++◌, map, ℕ, zero, suc, ◌+◌, ◌<◌, length, drop}
use Rattle.std.specs.Prelude.{Option, None, Some, Result, Ok, Err}
use Rattle.std.proofs.Math.Decide.{dec_lt}
use Rattle.std.proofs.Math.Seq.{paste}
use Rattle.words.specs.Tag.{byte_of}
use Rattle.effects.specs.Effect.{most_counted}
use Rattle.contents.specs.Contents.{record_bytes}
use Rattle.job.specs.Refusal.{RefusalRule, rule, first_of}
use Rattle.job.specs.RefusalNumber.{refusal_number, RefusedBy}
use Rattle.job.specs.declared.refusal.Refusal.{Refusal}
use Rattle.game.specs.Job.{game_of, record_of}
use Rattle.game.specs.Held.{held}
use Rattle.losing.specs.LosingReply.{FetchOutcome, keeps_won, lost_by, OutcomeIs}
use Rattle.play.specs.Play.{held_of}
use Rattle.play.specs.Moves.{tag_at}
use Rattle.fetching.specs.FetchRules.{rule23}
use Rattle.play.specs.MoveRules.{rule22}
use Rattle.play_advice.specs.Advice.{advice_rules}
use Rattle.play.specs.declared.Play.{Play}

-- what is answered: no reply, since fetching keeps the play won; the losing reply's length; or a refusal
abbrev pub LosingAnswer : Type 0
LosingAnswer = Result (Option ℕ) Refusal

-- the number of tags to be written
abbrev pub tags_of : FetchOutcome → ℕ
tags_of keeps_won = 0
tags_of (lost_by u) = length u

-- the losing reply has more than 4,096 tags (SPEC 7.25); the buffer is shorter than it (SPEC 7.26)
abbrev pub rule25 : FetchOutcome → RefusalRule
rule25 a = rule 25 (most_counted < tags_of a) (dec_lt most_counted (tags_of a))

abbrev pub rule26 : FetchOutcome → ℕ → RefusalRule
rule26 a room = rule 26 (room < tags_of a) (dec_lt room (tags_of a))

-- the two in their order (SPEC 7.3)
abbrev pub reply_rules : FetchOutcome → ℕ → List RefusalRule
reply_rules a room = rule25 a ∷ rule26 a room ∷ []

abbrev pub reply_refusal : FetchOutcome → ℕ → ℕ
reply_refusal a room = first_of (reply_rules a room)

-- the refusals where no fetch is allowed: as for advice, then 22 and 23 as for a fetch
abbrev pub fetch_asked_rules : List ℕ → Play → List RefusalRule
fetch_asked_rules file p = advice_rules file p ++ (rule22 (record_bytes file) p ∷ rule23 (game_of file) (tag_at (record_bytes file) p) ∷ [])

-- all refusals, with what a fetch may come to and room for so many bytes: `losing_given`
abbrev pub losing_rules : List ℕ → Play → FetchOutcome → ℕ → List RefusalRule
losing_rules file p a room = fetch_asked_rules file p ++ reply_rules a room

-- the file is accepted, the play fits, a tag is left, and a fetch is allowed there
abbrev pub FetchAsked : List ℕ → Play → Type 0
FetchAsked file p = first_of (fetch_asked_rules file p) ≡ 0

-- what a fetch comes to at the next tag, by what the play holds (SPEC 13.7)
abbrev pub OutcomeAt : List ℕ → Play → FetchOutcome → Type 0
OutcomeAt file p a =
    let G = game_of file in
    OutcomeIs (held G) (tag_at (record_bytes file) p) (drop (p.position + 1) (record_of file)) (held_of p) a

-- the answer by the refusal's number
abbrev pub losing_answer : ℕ → FetchOutcome → LosingAnswer → Type 0
losing_answer zero keeps_won r = r ≡ Ok None
losing_answer zero (lost_by u) r = r ≡ Ok (Some (length u))
losing_answer (suc n) a r = RefusedBy (suc n) r

-- the buffer with the reply from its first byte on
abbrev pub losing_buffer : ℕ → FetchOutcome → List ℕ → List ℕ
losing_buffer zero keeps_won buffer = buffer
losing_buffer zero (lost_by u) buffer = paste buffer 0 (map byte_of u) (length u)
losing_buffer (suc n) a buffer = buffer

-- The answer for any file, play and buffer, and every byte of the buffer afterwards: the refusal where no fetch is allowed, and else by
-- what a fetch comes to. Exactly one answer and one buffer are so: `losing_exactly`.
pub record LosingReplyOf (file : List ℕ) (p : Play) (buffer : List ℕ) (r : LosingAnswer) (left : List ℕ) : Type 0 where
  pub refused : ¬ FetchAsked file p → RefusedBy (first_of (fetch_asked_rules file p)) r × (left ≡ buffer)
  pub given : FetchAsked file p → (a : FetchOutcome) × OutcomeAt file p a ×
      losing_answer (reply_refusal a (length buffer)) a r × (left ≡ losing_buffer (reply_refusal a (length buffer)) a buffer)

-- An answer as one number, for C and for programs: 0 for none, a length raised so that it is no refusal's, or the refusal (SPEC 13.8).
abbrev pub length_base : ℕ
length_base = 100

abbrev pub losing_number : LosingAnswer → ℕ
losing_number (Ok None) = 0
losing_number (Ok (Some n)) = length_base + n
losing_number (Err e) = refusal_number e
