-- The record is won exactly when the evaluators' set for its forest has the start state.
use mathlib.Core.Path.{◌≡◌, refl, sym, ◌∙◌, ap, fun_ext}
use mathlib.Core.Bool.{Bool, true, false, cond, true≢false, false≢true}
use mathlib.Core.Logic.Iff
use mathlib.Core.Logic.{◌↔◌}
use mathlib.Core.List.{List, [], ◌++◌, append-nil}
use Prim.Native.Nat.{ℕ}
use native.Mathlib.Omega.{arith}
use lib.ListN.{length}
use Rattle.words.specs.Tag.{word_of}
use Rattle.words.specs.Forest.{Forest, tags, WellNested}
use Rattle.words.specs.Inner.Rest.{Closes}
use Rattle.automata.specs.Reply.{Form}
use Rattle.automata.specs.Target.{Config, at}
use Rattle.automata.specs.Bits.{bit}
use Rattle.automata.specs.TargetBody.{target_of, ValidTarget}
use Rattle.effects.specs.Effects.{EffectsOf}
use Rattle.effects.specs.Inner.Sets.{sets_of}
use Rattle.effects.specs.Inner.Lent.{LentOf}
use Rattle.effects.specs.declared.Effects.{Effects}
use Rattle.contents.specs.Contents.{has_form, target_body, record_bytes}
use Rattle.job.specs.File.{form_in, file_refusal}
use Rattle.job.specs.Accepted.{Accepted}
use Rattle.job.specs.RefusalNumber.{refusal_number}
use Rattle.job.specs.declared.refusal.Refusal.{Refusal}
use Rattle.job.proofs.RefusalNumbers.{number_positive}
use Rattle.automata.proofs.TargetTables.{target_closed}
use Rattle.job.proofs.Accepted.{is_accepted}
use Rattle.game.specs.Game.{Game}
use Rattle.game.specs.Spelled.{unspelled}
use Rattle.game.specs.Held.{replacing}
use Rattle.solver.specs.Inner.Evaluated.{won_before, ForestJudged, by_states, Judgeable}
use Rattle.solver.specs.Inner.PlayedWith.{PlayedWith, Decides}
use Rattle.game.specs.Job.{game_of, record_of}
use Rattle.game.specs.Verdict.{RecordWon, RecordLost, VerdictOf}
use Rattle.solver.specs.Report.{ReportIs}
use Rattle.game.specs.Listed.{Listed}
use Rattle.solver.specs.declared.verdict.Report.{Report}
use Rattle.game.proofs.Solve.{win_at}
use Rattle.game.proofs.Determined.{file_closed, tested, tested_won, tested_lost}
use Rattle.game.proofs.HeldGame.{HeldFits}
use Rattle.words.proofs.RestLaws.{closes_forest}
use Rattle.game.proofs.SpelledGame.{spelled_won, spelled_lost, at_start}
use Rattle.game.proofs.Before.{winning, won_before_lem, lost_before}
use Rattle.solver.proofs.GamesWith.{game_with, is_played, listed_with, every_game}
use Rattle.solver.proofs.Evaluated.{forest_whole}

module _ {target sets : List ℕ} (v : ValidTarget target) (forms : ℕ → Form) (e : LentOf (target_of target) has_form forms sets)
    (f : Forest) where
  abbrev G : Game
  G = game_with target forms

  abbrev L : Listed (replacing G)
  L = listed_with forms e v

  abbrev start : Config
  start = at (target_of target).start []

  -- whether the evaluators' set of the forest has the start state
  abbrev truth : Bool
  truth = won_before (by_states target sets) f (target_of target).accepting (target_of target).start

  closes : Closes 0 (tags f ++ [])
  closes = closes_forest f (append-nil (tags f))

  start_fits : HeldFits G (tags f ++ []) start
  start_fits = ((target_closed target v).start_below, tt, closes)

  -- with no tag left the accepting states are won
  at_end : winning (replacing G) L [] [] ≡ (target_of target).accepting
  unfolding win_at
  at_end = refl

  pub forest_won : RecordWon G (tags f ++ []) ↔ (truth ≡ true)
  forest_won =
      Iff.trans (spelled_won G (tags f ++ []) unspelled start (at_start G) closes)
      (rw at_end at (won_before_lem (replacing G) L f [] (target_of target).start [] start_fits))

  pub forest_lost : RecordLost G (tags f ++ []) ↔ (truth ≡ false)
  forest_lost =
      Iff.trans (spelled_lost G (tags f ++ []) unspelled start (at_start G) closes)
      (rw at_end at (lost_before (replacing G) L f [] (target_of target).start [] start_fits))

-- what the evaluators find of the whole record decides it
pub record_decided : (target sets bytes : List ℕ) → ValidTarget target →
    (n : WellNested (word_of bytes)) (goal start won : ℕ)
    → ((q : ℕ) → bit goal q ≡ (target_of target).accepting q) → ForestJudged (by_states target sets) bytes (length bytes) goal start won
    → (G : Game) → PlayedWith G target sets → Decides G (word_of bytes) (bit won (target_of target).start)
record_decided target sets bytes v n goal start won acc j =
    let f = n.forest in
    let word : tags f ++ [] ≡ word_of bytes = append-nil (tags f) ∙ n.spells in
    let found : bit won (target_of target).start ≡
    won_before (by_states target sets) f (target_of target).accepting (target_of target).start =
    (forest_whole (by_states target sets) j f (sym n.spells)).1 (target_of target).start (target_closed target v).start_below
    ∙ ap (λ S. won_before (by_states target sets) f S (target_of target).start) (fun_ext acc) in
    every_game (λ G. Decides G (word_of bytes) (bit won (target_of target).start)) (λ forms e.
    let w = forest_won v forms e f in
    let l = forest_lost v forms e f in
    rw (found, ← word) (record { won = (w.1, w.0); lost = (l.1, l.0) }))

-- the game of an accepted file is played with its target and the sets of the effects that the loader found
module _ (file : List ℕ) (E : Effects) (e : EffectsOf (target_of (target_body file)) has_form (form_in file) E) where
  file_lent : LentOf (target_of (target_body file)) has_form (form_in file) (sets_of E)
  file_lent = record { effects = E; exact = e; lent = refl }

  pub file_plays : PlayedWith (game_of file) (target_body file) (sets_of E)
  unfolding game_of
  file_plays = is_played (form_in file) file_lent

  pub game_effects : EffectsOf (game_of file).target has_form (game_of file).forms E
  unfolding game_of
  game_effects = e

  pub file_judgeable : Accepted file → Judgeable (target_body file) (sets_of E) (record_bytes file) (length (record_bytes file))
  file_judgeable a =
      record {
        answered = record { forms = form_in file; effects = file_lent; answered = a.bodies.answered };
        coded = a.bodies.is_record.word.bytes;
        within = omega arith;
      }

-- what is answered for an accepted file, and what is reported
module _ (file : List ℕ) (ok : file_refusal file ≡ 0) where
  pub decided_verdict : (b : Bool) → Decides (game_of file) (record_of file) b → VerdictOf file (cond b 1 0)
  decided_verdict true d =
      record {
        refused = λ n. absurd (n ok);
        given = λ _.
            record {
              yes = (λ _. d.won.0 refl, λ _. refl);
              no = (λ e. absurd (omega arith), λ l. absurd (true≢false (d.lost.1 l)));
            };
      }
  decided_verdict false d =
      record {
        refused = λ n. absurd (n ok);
        given = λ _.
            record {
              yes = (λ e. absurd (omega arith), λ w. absurd (false≢true (d.won.1 w)));
              no = (λ _. d.lost.0 refl, λ _. refl);
            };
      }

  pub accepted_report : (r : Report) → Decides (game_of file) (record_of file) r.won → r.states ≡ (game_of file).target.states →
      EffectsOf (game_of file).target has_form (game_of file).forms r.effects → ReportIs file r
  accepted_report r d s e = record { accepted = ok; verdict = decided_verdict r.won d; states = s; effects = e }

  -- the record of an accepted file is won or lost
  pub file_decided : (b : Bool) × Decides (game_of file) (record_of file) b
  file_decided =
      let G = game_of file in
      let closed = file_closed file ok in
      let n = (is_accepted file ok).bodies.is_record.word.nested in
      let w = tested_won G closed (record_of file) n in
      let l = tested_lost G closed (record_of file) n in
      (tested G closed (record_of file) (at G.target.start []), record { won = (w.1, w.0); lost = (l.1, l.0) })

-- the verdict on a refused file is its refusal
pub refused_verdict : (file : List ℕ) (e : Refusal) → file_refusal file ≡ refusal_number e → VerdictOf file (refusal_number e)
refused_verdict file e r = record { refused = λ n. sym r; given = λ z. absurd (number_positive e (sym r ∙ z)) }
