-- For every file, every play and every buffer whatever, exactly one answer and one buffer are the losing reply's.
use mathlib.Core.Path.{◌≡◌, refl, sym, ◌∙◌, ap, subst}
use mathlib.Core.Bool.{true}
use mathlib.Core.Logic.{◌↔◌}
use mathlib.Core.List.{List, ◌∷◌}
use Prim.Native.Nat.{ℕ, zero, suc, pred, ◌+◌, ◌-◌, ◌<◌, ◌≤◌}
use native.Mathlib.Omega.{arith}
use native.Mathlib.Decide.{ℕ_discrete}
use lib.ListN.{length, drop, length-map}
use Rattle.std.specs.Prelude.{None, Some, Result, Ok, Err}
use Rattle.words.specs.Exactly.{Exactly}
use Rattle.words.specs.Opened.{open_at}
use Rattle.words.specs.Stack.{newest_first}
use Rattle.words.specs.Tag.{Word, closing, word_of}
use Rattle.words.specs.Inner.Rest.{Closes}
use Rattle.words.proofs.OpenLaws.{open_past, rest_left}
use Rattle.words.proofs.StackLaws.{length_newest}
use Rattle.automata.specs.Target.{at}
use Rattle.contents.specs.Contents.{record_bytes}
use Rattle.job.specs.Refusal.{first_of, Given}
use Rattle.job.specs.RefusalNumber.{refusal_number, RefusedBy}
use Rattle.job.specs.declared.refusal.Refusal.{Refusal}
use Rattle.job.specs.declared.refusal.Refusal.TheVariants.{TooLong, NoRoom}
use Rattle.job.proofs.RefusalNumbers.{number_injective, named_first}
use Rattle.job.proofs.Refusals.{given, first_passed, append_passed, append_refused}
use Rattle.game.specs.Game.{Game, allowed}
use Rattle.game.specs.Held.{held}
use Rattle.game.specs.Job.{game_of}
use Rattle.game.proofs.HeldGame.{HeldFits}
use Rattle.advice.proofs.LeftLaws.{newest_first_lem, kept_below}
use Rattle.losing.specs.LosingReply.{FetchOutcome, keeps_won, lost_by, OutcomeIs}
use Rattle.losing.proofs.LosingReplyLaws.{outcome_exactly}
use Rattle.play.specs.Play.{held_of, PlayFits}
use Rattle.play.specs.Moves.{tag_at, newest}
use Rattle.play_losing.specs.LosingAnswer.{reply_rules, reply_refusal, fetch_asked_rules, losing_rules, FetchAsked, OutcomeAt}
use Rattle.play_losing.specs.LosingAnswer.{LosingAnswer, losing_answer, losing_buffer, LosingReplyOf}
use Rattle.play.specs.declared.Play.{Play}
use Rattle.play.proofs.EntryLaws.{file_playable}
use Rattle.fetching.proofs.FetchLaws.{allowed_closing}
use Rattle.play.proofs.SoundPlay.{Playable, some_open}
use Rattle.play_losing.proofs.LosingAnswerLaws.{asked_named, asked_numbered, asked_parts, losing_refused}

-- a play that fits, at a closing tag of a record that can be played: exactly one thing is what a fetch comes to
module _ (G : Game) (bytes : List ℕ) (y : Playable G.target (word_of bytes)) (p : Play) (f : PlayFits G.target (word_of bytes) p)
    (left : p.position < length (word_of bytes)) (c : ℕ) (e : tag_at bytes p ≡ closing c) where
  abbrev w : Word
  w = word_of bytes

  abbrev later : ℕ
  later = p.position + 1

  one_open : 1 ≤ p.depth
  one_open = some_open f y.nested left c e

  -- the tags after it close the elements around
  closes : Closes (p.depth - 1) (drop later w)
  closes =
      let down : open_at w later ≡ pred (open_at w p.position) = open_past w p.position (closing c) left e in
      let around : open_at w later ≡ p.depth - 1 = omega (arith, f.as_many) in
      subst (λ d. Closes d (drop later w)) around (_, rest_left w y.nested later)

  after_fits : (s : ℕ) → s < G.target.states → HeldFits G (drop later w) (at s (newest_first p.kept (p.depth - 1)))
  after_fits s h = (
    h,
    kept_below G.target.states p.kept (p.depth - 1) (λ i l. f.kept_states i (omega arith)),
    subst (λ d. Closes d (drop later w)) (sym (length_newest p.kept (p.depth - 1))) closes,
  )

  held_newest : held_of p ≡ at p.state (newest p p.kept ∷ newest_first p.kept (p.depth - 1))
  unfolding held_of
  held_newest = ap (λ ks. at p.state ks) (newest_first_lem p.kept p.depth one_open)

  play_outcome : G.fetchable c ≡ true → Exactly (OutcomeIs (held G) (tag_at bytes p) (drop later w) (held_of p))
  play_outcome may =
      let o = one_open in
      rw (e, held_newest)
      (outcome_exactly G y.closed_target c p.state (newest p p.kept) (drop later w) (newest_first p.kept (p.depth - 1)) may
      (f.kept_states (p.depth - 1) (omega arith)) after_fits)

-- one refusal has a number
refused_once : {A : Type 0} (n : ℕ) → ¬ (n ≡ 0) → (r s : Result A Refusal) → RefusedBy n r → RefusedBy n s → r ≡ s
refused_once n z (Ok x) s d e = absurd (z d)
refused_once n z (Err x) (Ok y) d e = absurd (z e)
refused_once n z (Err x) (Err y) d e = ap Err (number_injective x y (sym d ∙ e))

-- what is answered under a number
answer_once : (n : ℕ) (a : FetchOutcome) (r s : LosingAnswer) → losing_answer n a r → losing_answer n a s → r ≡ s
answer_once zero keeps_won r s d e = d ∙ sym e
answer_once zero (lost_by u) r s d e = d ∙ sym e
answer_once (suc n) a r s d e = refused_once (suc n) (λ z. omega arith) r s d e

answer_some : (n : ℕ) (a : FetchOutcome) → (¬ (n ≡ 0) → (e : Refusal) × (n ≡ refusal_number e)) → (r : LosingAnswer) × losing_answer n a r
answer_some zero keeps_won f = (Ok None, refl)
answer_some zero (lost_by u) f = (Ok (Some (length u)), refl)
answer_some (suc n) a f = let (e, k) = f (λ z. omega arith) in (Err e, k)

-- a refusal answers its number, and nothing else does
refusing_answer : (n : ℕ) (a : FetchOutcome) (r : LosingAnswer) → ¬ (n ≡ 0) → RefusedBy n r → losing_answer n a r
refusing_answer zero a r z e = absurd (z refl)
refusing_answer (suc n) a r z e = e

answer_refused : (n : ℕ) (a : FetchOutcome) (r : LosingAnswer) → ¬ (n ≡ 0) → losing_answer n a r → RefusedBy n r
answer_refused zero a r z e = absurd (z refl)
answer_refused (suc n) a r z e = e

one_number : {A : Type 0} (k n : ℕ) → ¬ (n ≡ 0) → (r : Result A Refusal) → RefusedBy k r → RefusedBy n r → k ≡ n
one_number k n z (Ok x) d e = absurd (z e)
one_number k n z (Err x) d e = d ∙ sym e

answer_number : (k : ℕ) (a : FetchOutcome) (n : ℕ) → ¬ (n ≡ 0) → (r : LosingAnswer) → losing_answer k a r → RefusedBy n r → k ≡ n
answer_number zero keeps_won n z r d e = absurd (z (subst (RefusedBy n) d e))
answer_number zero (lost_by u) n z r d e = absurd (z (subst (RefusedBy n) d e))
answer_number (suc k) a n z r d e = one_number (suc k) n z r d e

abbrev IsReply : FetchOutcome → Type 0
IsReply keeps_won = ⊥
IsReply (lost_by u) = Unit {0}

module _ (file : List ℕ) (p : Play) where
  -- where a fetch is allowed, exactly one thing is what it comes to
  pub outcome_at_exactly : FetchAsked file p → Exactly (OutcomeAt file p)
  outcome_at_exactly asked =
      let G = game_of file in
      let bytes = record_bytes file in
      let (ok, fits, left, may) = asked_parts file p asked in
      let (c, e) = allowed_closing G (tag_at bytes p) may in
      play_outcome G bytes (file_playable file ok) p fits (rw length-map left) c e (subst (λ t. allowed G t ≡ true) e may)

  reply_else : (a : FetchOutcome) → OutcomeAt file p a → ¬ OutcomeAt file p keeps_won → (u : Word) × OutcomeAt file p (lost_by u)
  reply_else keeps_won x n = absurd (n x)
  reply_else (lost_by u) x n = (u, x)

  -- There is a losing reply exactly where fetching does not keep the play won.
  pub losing_exists : FetchAsked file p → ((u : Word) × OutcomeAt file p (lost_by u)) ↔ ¬ OutcomeAt file p keeps_won
  losing_exists asked =
      let one = outcome_at_exactly asked in (
        λ (u, x) n. subst IsReply (one.only (lost_by u) x ∙ sym (one.only keeps_won n)) tt,
        reply_else one.value one.right,
      )

  module _ (buffer : List ℕ) where
    abbrev Right : LosingAnswer × List ℕ → Type 0
    Right x = LosingReplyOf file p buffer x.0 x.1

    abbrev room : ℕ
    room = length buffer

    asked_one : FetchAsked file p → Exactly Right
    asked_one asked =
        let one = outcome_at_exactly asked in
        let a = one.value in
        let n = reply_refusal a room in
        let (r, k) = answer_some n a (named_first (reply_rules a room) ((TooLong, refl), ((NoRoom, refl), tt))) in
        record {
          value = (r, losing_buffer n a buffer);
          right = record { refused = λ n. absurd (n asked); given = λ _. (a, one.right, k, refl) };
          only = λ x s.
              let (b, is-so, e, left) = s.given asked in
              let same : b ≡ a = one.only b is-so in
              let answer = answer_once n a x.0 r (subst (λ y. losing_answer (reply_refusal y room) y x.0) same e) k in
              let bytes = left ∙ ap (λ y. losing_buffer (reply_refusal y room) y buffer) same in
              λ i. (answer i, bytes i);
        }

    refused_one : ¬ FetchAsked file p → Exactly Right
    refused_one n =
        let (e, k) = named_first (fetch_asked_rules file p) (asked_named file p) n in
        record {
          value = (Err e, buffer);
          right = losing_refused file p buffer e k;
          only = λ x s.
              let answer = refused_once (first_of (fetch_asked_rules file p)) n x.0 (Err e) (s.refused n).0 k in
              λ i. (answer i, (s.refused n).1 i);
        }

    pub losing_exactly : Exactly (λ (x : LosingAnswer × List ℕ). LosingReplyOf file p buffer x.0 x.1)
    losing_exactly = elim (ℕ_discrete (first_of (fetch_asked_rules file p)) 0) [ yes z ↦ asked_one z | no n ↦ refused_one n ]

    -- the answer is by the first refusal of all
    answer_is : (a : FetchOutcome) → (FetchAsked file p → OutcomeAt file p a) → (r : LosingAnswer) (left : List ℕ) →
        LosingReplyOf file p buffer r left → losing_answer (first_of (losing_rules file p a room)) a r
    answer_is a is-so r left s =
        let last = reply_rules a room in
        elim (ℕ_discrete (first_of (fetch_asked_rules file p)) 0) [
          | no n ↦
              subst (λ k. losing_answer k a r) (sym (append_refused (fetch_asked_rules file p) last n))
              (refusing_answer _ a r n (s.refused n).0)
          | yes z ↦
              let (b, so, e, _) = s.given z in
              let one = outcome_at_exactly z in
              let same : b ≡ a = one.only b so ∙ sym (one.only a (is-so z)) in
              subst (λ k. losing_answer k a r)
              (sym (append_passed (fetch_asked_rules file p) last (first_passed _ (asked_numbered file p) z)))
              (subst (λ y. losing_answer (reply_refusal y room) y r) same e)
        ]

-- Each number is given to who asks for the losing reply exactly when its own condition holds and none before it does, those of a fetch that
-- comes to a included.
pub losing_given : (file : List ℕ) (p : Play) (buffer : List ℕ) (r : LosingAnswer) (left : List ℕ) → LosingReplyOf file p buffer r left →
    (a : FetchOutcome) → (FetchAsked file p → OutcomeAt file p a) → (n : ℕ) → (n ≡ 0 → ⊥) →
    RefusedBy n r ↔ Given (losing_rules file p a (length buffer)) n
losing_given file p buffer r left s a is-so n z =
    let rules = losing_rules file p a (length buffer) in
    let by-rules = given rules n z in
    let is = answer_is file p buffer a is-so r left s in (
      λ e. by-rules.0 (answer_number (first_of rules) a n z r is e),
      λ g. answer_refused n a r z (subst (λ k. losing_answer k a r) (by-rules.1 g) is),
    )
