-- What the entry for the losing reply answers, for any bytes whatever (SPEC 13.8).
use Rattle.std.specs.Prelude.{◌≡◌, true, List, ℕ, length}
use Rattle.losing.specs.LosingReply.{FetchOutcome}
use Rattle.play_losing.specs.LosingAnswer.{LosingAnswer, LosingReplyOf, reply_refusal, losing_answer, losing_buffer, losing_number}
use Rattle.demand.specs.Kind.{Kind}
use Rattle.demand.specs.Demand.{SpellingAt, next_tag, NotAtEnd}
use Rattle.demand.specs.Replacing.{replacing_in}
use Rattle.demand.specs.SpelledOutcome.{OutcomeOn}
use Rattle.sakonite.specs.Played.{ample}
use Rattle.sakonite.specs.Entries.{history_refusal, play_at}

-- the losing reply after a history, or the refusal; a refusal writes nothing. The moves are judged as for advice (SPEC 8.12).
pub record LosingReplyAfter (file history buffer : List ℕ) (r : ℕ) (left : List ℕ) : Type 0 where
  pub refused : ¬ (history_refusal file history ample ≡ 0) → (r ≡ history_refusal file history ample) × (left ≡ buffer)
  pub given : history_refusal file history ample ≡ 0 →
      (s : LosingAnswer) × LosingReplyOf file (play_at file history) buffer s left × (r ≡ losing_number s)

-- the same of calls that are all accepted and spell F, measured in the game on words, by nothing of a play
module _ (file : List ℕ) where
  abbrev K : Kind
  K = replacing_in file

  -- a fetch is allowed at the next tag
  abbrev pub MayFetch : SpellingAt K → Type 0
  MayFetch F = K.words.may (next_tag K F) F.spelling ≡ true

  pub record HostLosingReply (F : SpellingAt K) (buffer : List ℕ) (r : ℕ) (left : List ℕ) : Type 0 where
    pub at_end : F.position ≡ length K.tags → (r ≡ 22) × (left ≡ buffer)
    pub barred : NotAtEnd K F → ¬ MayFetch F → (r ≡ 23) × (left ≡ buffer)
    pub asked : NotAtEnd K F → MayFetch F → (a : FetchOutcome) × OutcomeOn K F a ×
        ((s : LosingAnswer) × losing_answer (reply_refusal a (length buffer)) a s × (r ≡ losing_number s)) ×
        (left ≡ losing_buffer (reply_refusal a (length buffer)) a buffer)
