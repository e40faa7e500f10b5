-- What the entries that take a history answer, case by case.
use mathlib.Core.Path.{◌≡◌, sym, ◌∙◌, ap, subst}
use mathlib.Core.Logic.{◌↔◌, if_pos, if_neg}
use mathlib.Core.List.{List, ◌∷◌}
use Prim.Native.Nat.{ℕ, ◌+◌, ◌*◌, ◌^◌, ◌≤◌}
use native.Mathlib.Decide.{ℕ_discrete}
use lib.Dec.{lit<}
use lib.ListN.{length}
use Rattle.std.specs.Prelude.{Result, Ok, Err}
use Rattle.words.specs.Inner.Nesting.{most_tags}
use Rattle.job.specs.Refusal.{RefusalRule, Given}
use Rattle.job.specs.RefusalNumber.{refusal_number}
use Rattle.job.specs.File.{file_refusal}
use Rattle.job.specs.declared.refusal.Refusal.{Refusal}
use Rattle.job.specs.declared.refusal.Refusal.TheVariants.{History}
use Rattle.job.proofs.Refusals.{given, first_broken, first_kept}
use Rattle.job.proofs.Accepted.{positive}
use Rattle.job.proofs.RefusalNumbers.{number_positive}
use Rattle.game.specs.Job.{game_of, record_of}
use Rattle.play.specs.Moves.{MoveCall}
use Rattle.play.specs.Play.{PlayFits}
use Rattle.play_advice.specs.Start.{file_start}
use Rattle.play.specs.declared.Play.{Play}
use Rattle.play.proofs.EntryLaws.{file_first, file_passed}
use Rattle.sakonite.specs.History.{IsHistory}
use Rattle.sakonite.specs.Decide.History.{is_history?}
use Rattle.sakonite.specs.Entries.{calls_of, rule20, finished_base}
use Rattle.sakonite.specs.Played.{call_rules, ample, buffer_after}
use Rattle.sakonite.specs.Inner.CallsTaken.{first_refused}
use Rattle.sakonite.specs.Entries.{history_rules, history_refusal, play_at, finished_refusal, finished_number, finished_buffer}
use Rattle.sakonite.specs.Entries.{FinishedAfter}
use Rattle.sakonite.specs.Inner.CallsTaken.{HistoryJudged, HistoryPlayed}
use Rattle.sakonite.proofs.RoomLaws.{Modest, modest_start, modest_after, count_bound, large_enough, ample_enough, same_first}

-- Each number is given exactly when its own condition holds and none before it does: the file's, 20, those of the calls in turn.
pub history_given : (file history : List ℕ) (room : Play → MoveCall → ℕ) (n : ℕ) → (n ≡ 0 → ⊥) →
    (history_refusal file history room ≡ n) ↔ Given (history_rules file history room) n
unfolding history_refusal
history_given file history room n z = given (history_rules file history room) n z

-- which part of the list decides
module _ (file h : List ℕ) (room : Play → MoveCall → ℕ) where
  abbrev calls : List RefusalRule
  calls = call_rules file room (file_start file) (calls_of h)

  pub by_file : ¬ (file_refusal file ≡ 0) → history_refusal file h room ≡ file_refusal file
  unfolding history_refusal history_rules
  by_file n = file_first file (rule20 h ∷ calls) n

  module _ (ok : file_refusal file ≡ 0) where
    pub by_history : ¬ IsHistory h → history_refusal file h room ≡ 20
    unfolding history_refusal history_rules
    by_history n = file_passed file (rule20 h ∷ calls) ok ∙ first_broken (rule20 h) calls n

    pub by_calls : IsHistory h → history_refusal file h room ≡ first_refused file room (file_start file) (calls_of h)
    unfolding history_refusal history_rules first_refused
    by_calls x = file_passed file (rule20 h ∷ calls) ok ∙ first_kept (rule20 h) calls (λ n. n x)

  -- where none is given, the file is accepted and the bytes are a history, of whose calls none is refused
  pub none_refused : history_refusal file h room ≡ 0 →
      (file_refusal file ≡ 0) × IsHistory h × (first_refused file room (file_start file) (calls_of h) ≡ 0)
  none_refused z =
      let ok : file_refusal file ≡ 0 = elim (ℕ_discrete (file_refusal file) 0) [ yes y ↦ y | no n ↦ sym (by_file n) ∙ z ] in
      let x : IsHistory h = elim (is_history? h) [ yes y ↦ y | no n ↦ absurd (positive 20 (lit< tt) (sym (by_history ok n) ∙ z)) ] in
      (ok, x, sym (by_calls ok x) ∙ z)

  -- and the play reached is modest
  pub play_reached : history_refusal file h room ≡ 0 → Modest file (play_at file h)
  play_reached z =
      let a = none_refused z in
      modest_after file a.0 room (calls_of h) (file_start file) (modest_start file a.0) a.2

-- what is first refused in an accepted file: bytes that are no history, or a call; or else none
module _ (file h : List ℕ) (room : ℕ) (ok : file_refusal file ≡ 0) where
  pub played_none : ¬ IsHistory h → HistoryPlayed file h room (Err History)
  played_none n = by_history file h _ ok n

  pub played_calls : IsHistory h → (r : Result Play Refusal) → HistoryJudged file h room r → HistoryPlayed file h room r
  played_calls x (Ok p) j = (by_calls file h _ ok x ∙ j.0, j.1)
  played_calls x (Err e) j = by_calls file h _ ok x ∙ j

-- that of a refused file, whatever room there is
pub file_refused : (file h : List ℕ) (room : Play → MoveCall → ℕ) (e : Refusal) → file_refusal file ≡ refusal_number e →
    history_refusal file h room ≡ refusal_number e
file_refused file h room e r = by_file file h room (λ z. number_positive e (sym r ∙ z)) ∙ r

-- with a large room, for advice and for the losing reply
module _ (file h : List ℕ) where
  abbrev large : Play → MoveCall → ℕ
  large p m = 2 ^ 32

  same_calls : file_refusal file ≡ 0 →
      first_refused file large (file_start file) (calls_of h) ≡ first_refused file ample (file_start file) (calls_of h)
  same_calls ok =
      same_first file ok large ample (λ p k m. large_enough file ok p k m) (λ p k m. ample_enough p m) (calls_of h) (file_start file)
      (modest_start file ok)

  pub same_history : history_refusal file h large ≡ history_refusal file h ample
  same_history =
      elim (ℕ_discrete (file_refusal file) 0) [
        | no n ↦ by_file file h large n ∙ sym (by_file file h ample n)
        | yes ok ↦ elim (is_history? h) [
          | no n ↦ by_history file h large ok n ∙ sym (by_history file h ample ok n)
          | yes x ↦ by_calls file h large ok x ∙ same_calls ok ∙ sym (by_calls file h ample ok x)
        ]
      ]

  module _ (p : Play) (j : HistoryPlayed file h (2 ^ 32) (Ok p)) where
    pub history_accepted : history_refusal file h ample ≡ 0
    history_accepted = sym same_history ∙ j.0

    -- the play that the history leads to fits
    pub history_fits : PlayFits (game_of file).target (record_of file) p
    history_fits =
        subst (λ q. PlayFits (game_of file).target (record_of file) q) (sym j.1) (play_reached file h ample history_accepted).sound.fits

-- with the buffer's room, for the finished part
module _ (file h buffer : List ℕ) where
  abbrev lent : Play → MoveCall → ℕ
  lent p m = length buffer

  abbrev zero? : Dec (finished_refusal file h buffer ≡ 0)
  zero? = ℕ_discrete (finished_refusal file h buffer) 0

  pub finished_refused : (e : Refusal) → finished_refusal file h buffer ≡ refusal_number e →
      FinishedAfter file h buffer (refusal_number e) buffer
  unfolding finished_number finished_buffer
  finished_refused e r =
      let n : ¬ (finished_refusal file h buffer ≡ 0) = λ z. number_positive e (sym r ∙ z) in
      record { number = sym r ∙ sym (if_neg zero? n _ _); bytes = sym (if_neg zero? n _ _) }

  module _ (z : finished_refusal file h buffer ≡ 0) where
    pub finished_given : (count : ℕ) (left : List ℕ) → count ≡ (play_at file h).count →
        left ≡ buffer_after file (file_start file) buffer (calls_of h) → FinishedAfter file h buffer (finished_base + count) left
    unfolding finished_number finished_buffer
    finished_given count left c p =
        record {
          number = ap (λ n. finished_base + n) c ∙ sym (if_pos zero? z _ _);
          bytes = p ∙ sym (if_pos zero? z _ _);
        }

    pub finished_bound : (play_at file h).count ≤ most_tags * most_tags
    finished_bound = count_bound file (none_refused file h lent z).0 _ (play_reached file h lent z)
