-- Calls judged and made one after another, against the folds of specs/Played.antt.
use mathlib.Core.Path.{◌≡◌, refl, sym, ◌∙◌, ap}
use mathlib.Core.List.{List, [], ◌∷◌, ◌++◌}
use Prim.Native.Nat.{ℕ}
use native.Mathlib.Decide.{ℕ_discrete}
use lib.ListN.{length}
use Rattle.std.specs.Prelude.{Ok, Err}
use Rattle.contents.specs.Contents.{record_bytes}
use Rattle.job.specs.declared.refusal.Refusal.{Refusal}
use Rattle.job.proofs.Refusals.{first_passed, passed_first, append_passed, append_refused}
use Rattle.job.proofs.RefusalNumbers.{number_positive}
use Rattle.game.specs.Job.{game_of}
use Rattle.play.specs.Moves.{MoveCall, with_piece}
use Rattle.play.specs.MoveRules.{play_rules}
use Rattle.play.specs.Inner.MoveParts.{MoveJudged, SameButStates, refusal_of}
use Rattle.play.specs.declared.Play.{Play}
use Rattle.play.proofs.MoveLaws.{refusal_in}
use Rattle.play.proofs.MoveRefusals.{rules_numbered}
use Rattle.play_advice.specs.Start.{file_start}
use Rattle.sakonite.specs.Played.{moved_by, call_rules, play_after, buffer_after}
use Rattle.sakonite.specs.Entries.{calls_of, play_at}
use Rattle.sakonite.specs.Inner.CallsTaken.{first_refused, HistoryJudged}

-- one call more leads one move on
pub after_more : (file : List ℕ) (p : Play) (cs : List MoveCall) (m : MoveCall) →
    play_after file p (cs ++ (m ∷ [])) ≡ moved_by file (play_after file p cs) m
after_more file p [] m = refl
after_more file p (x ∷ cs) m = after_more file (moved_by file p x) cs m

-- of no calls none is refused
pub none_first : (file : List ℕ) (room : Play → MoveCall → ℕ) (p : Play) → first_refused file room p [] ≡ 0
unfolding first_refused
none_first file room p = passed_first [] tt

-- the first of some calls, accepted or refused
module _ (file : List ℕ) (room : Play → MoveCall → ℕ) (p : Play) (m : MoveCall) (ds : List MoveCall) where
  pub first_accepted : refusal_in file p m (room p m) ≡ 0 → first_refused file room p (m ∷ ds) ≡
      first_refused file room (moved_by file p m) ds
  unfolding refusal_of first_refused
  first_accepted e =
      let G = game_of file in
      let rules = play_rules G (record_bytes file) p m (room p m) in
      append_passed rules (call_rules file room (moved_by file p m) ds) (first_passed rules
      (rules_numbered G (record_bytes file) p m (room p m)) e)

  pub first_refused_lem : ¬ (refusal_in file p m (room p m) ≡ 0) → first_refused file room p (m ∷ ds) ≡ refusal_in file p m (room p m)
  unfolding refusal_of first_refused
  first_refused_lem n = append_refused (play_rules (game_of file) (record_bytes file) p m (room p m))
      (call_rules file room (moved_by file p m) ds) n

  -- where no call is refused, the first is not, and of the others none is
  pub head_accepted : first_refused file room p (m ∷ ds) ≡ 0 → refusal_in file p m (room p m) ≡ 0
  head_accepted e = elim (ℕ_discrete (refusal_in file p m (room p m)) 0) [ yes z ↦ z | no n ↦ sym (first_refused_lem n) ∙ e ]

  pub tail_accepted : first_refused file room p (m ∷ ds) ≡ 0 → first_refused file room (moved_by file p m) ds ≡ 0
  tail_accepted e = sym (first_accepted (head_accepted e)) ∙ e

-- what the calls left of a history come to from the play reached, each with room for as many bytes, is what all of them come to
module _ (file h : List ℕ) (room : ℕ) where
  abbrev constant : Play → MoveCall → ℕ
  constant p m = room

  pub record SameFrom (p : Play) (ds : List MoveCall) : Type 0 where
    pub number : first_refused file constant (file_start file) (calls_of h) ≡ first_refused file constant p ds
    pub play : play_at file h ≡ play_after file p ds

  pub judged_start : SameFrom (file_start file) (calls_of h)
  judged_start = record { number = refl; play = refl }

  module _ (p : Play) (m : MoveCall) (ds : List MoveCall) (t : SameFrom p (m ∷ ds)) where
    pub judged_step : (q : Play) → MoveJudged file p m room (Ok q) → SameFrom q ds
    judged_step q j =
        record {
          number = t.number ∙ first_accepted file constant p m ds j.0 ∙ ap (λ x. first_refused file constant x ds) (sym j.1);
          play = t.play ∙ ap (λ x. play_after file x ds) (sym j.1);
        }

    pub judged_refused : (e : Refusal) → MoveJudged file p m room (Err e) → HistoryJudged file h room (Err e)
    judged_refused e j = t.number ∙ first_refused_lem file constant p m ds (λ z. number_positive e (sym j ∙ z)) ∙ j

  pub judged_end : (p : Play) → SameFrom p [] → HistoryJudged file h room (Ok p)
  judged_end p t = (t.number ∙ none_first file constant p, sym t.play)

-- the calls left of a history are accepted from the play reached, and leave in the buffer reached what all of them leave in the first
module _ (file h buffer : List ℕ) where
  abbrev lent : Play → MoveCall → ℕ
  lent p m = length buffer

  pub record PlayedFrom (p : Play) (b : List ℕ) (ds : List MoveCall) : Type 0 where
    pub accepted : first_refused file lent p ds ≡ 0
    pub same : buffer_after file (file_start file) buffer (calls_of h) ≡ buffer_after file p b ds

  pub played_start : first_refused file lent (file_start file) (calls_of h) ≡ 0 → PlayedFrom (file_start file) buffer (calls_of h)
  played_start z = record { accepted = z; same = refl }

  module _ (p : Play) (b : List ℕ) (m : MoveCall) (ds : List MoveCall) (t : PlayedFrom p b (m ∷ ds)) where
    pub next_accepted : refusal_in file p m (length buffer) ≡ 0
    next_accepted = head_accepted file lent p m ds t.accepted

    pub played_step : (left : List ℕ) → left ≡ with_piece (record_bytes file) p m b → PlayedFrom (moved_by file p m) left ds
    played_step left w =
        record {
          accepted = tail_accepted file lent p m ds t.accepted;
          same = t.same ∙ ap (λ x. buffer_after file (moved_by file p m) x ds) (sym w);
        }

-- the calls left go on from a play that may hold other states than the one at hand
pub record PlayReached (file history buffer₀ : List ℕ) (ds : List MoveCall) (play : Play) (buffer : List ℕ) : Type 0 where
  pub at : Play
  pub same : SameButStates at play
  pub played : PlayedFrom file history buffer₀ at buffer ds
