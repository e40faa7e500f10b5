-- A game whose target is closed is determined: at each position that fits, the play is won or lost. So each file has exactly one verdict.
use mathlib.Core.Path.{◌≡◌}
use mathlib.Core.Bool.{Bool, true, false}
use mathlib.Core.Logic.Iff
use mathlib.Core.Logic.{◌⊎◌, inl, inr, ⊎_elim, ◌↔◌}
use mathlib.Core.List.{List, []}
use Prim.Native.Nat.{ℕ}
use Rattle.words.specs.Exactly.{Exactly}
use Rattle.words.specs.Tag.{Word}
use Rattle.words.specs.Forest.{WellNested}
use Rattle.words.proofs.Truth.{true_or_false}
use Rattle.words.proofs.RestLaws.{closes_nested}
use Rattle.automata.specs.Target.{Closed, Config, at}
use Rattle.automata.proofs.TargetTables.{target_closed}
use Rattle.effects.specs.Decide.Effect.{effect_list, effect_listed}
use Rattle.contents.specs.Contents.{target_body}
use Rattle.job.specs.File.{file_refusal}
use Rattle.job.proofs.Accepted.{is_accepted}
use Rattle.game.specs.Arena.{Won, Lost}
use Rattle.game.specs.Game.{Game}
use Rattle.game.specs.Held.{replacing, held}
use Rattle.game.specs.Job.{game_of, record_of}
use Rattle.game.specs.Spelled.{unspelled, spelled}
use Rattle.game.specs.Verdict.{RecordWon, RecordLost, VerdictOf}
use Rattle.game.specs.Listed.{Listed}
use Rattle.game.proofs.Answers.{refusal_exactly, yes_or_no_exactly}
use Rattle.game.proofs.Solve.{Finite, win_at, win→won, lose→lost, won_iff, lost_iff, won_lost}
use Rattle.game.proofs.RuleGame.{rule_finite}
use Rattle.game.proofs.HeldGame.{Exact, HeldFits, held_listed}
use Rattle.game.proofs.SpelledGame.{spelled_won, spelled_lost, at_start}

module _ (G : Game) (is_closed : Closed G.target) where
  abbrev pub effects : ℕ → ℕ → List ℕ
  effects c q = effect_list G.target (G.forms c) q

  pub effects_exact : Exact G effects
  effects_exact c q s m h = effect_listed G.target (G.forms c) is_closed q s h

  abbrev pub closed_listed : Listed (replacing G)
  closed_listed = held_listed G effects is_closed effects_exact

  abbrev finite : Finite (held G)
  finite = rule_finite (replacing G) closed_listed

  -- whether what is left is won, by the recursive test
  abbrev pub tested : Word → Config → Bool
  tested = win_at (held G) finite

  pub won_or_lost : (w : Word) (k : Config) → HeldFits G w k → Won (held G) w k ⊎ Lost (held G) w k
  unfolding rule_finite
  won_or_lost w k g =
      ⊎_elim (λ e. inl (win→won (held G) finite w k g e)) (λ e. inr (lose→lost (held G) finite w k g e))
      (true_or_false (tested w k))

  -- a record from its start, in the game on words
  module _ (w : Word) (n : WellNested w) where
    abbrev pub start : Config
    start = at G.target.start []

    pub start_fits : HeldFits G w start
    start_fits = (is_closed.start_below, tt, closes_nested n)

    pub tested_won : RecordWon G w ↔ (tested w start ≡ true)
    unfolding rule_finite
    tested_won =
        Iff.trans (spelled_won G w unspelled start (at_start G) (closes_nested n))
        (won_iff (held G) finite w start start_fits)

    pub tested_lost : RecordLost G w ↔ (tested w start ≡ false)
    unfolding rule_finite
    tested_lost =
        Iff.trans (spelled_lost G w unspelled start (at_start G) (closes_nested n))
        (lost_iff (held G) finite w start start_fits)

    record_won_or_lost : RecordWon G w ⊎ RecordLost G w
    record_won_or_lost = ⊎_elim (λ e. inl (tested_won.1 e)) (λ e. inr (tested_lost.1 e)) (true_or_false (tested w start))

module _ (file : List ℕ) where
  abbrev G : Game
  G = game_of file

  not_both : RecordWon G (record_of file) → RecordLost G (record_of file) → ⊥
  not_both = won_lost (spelled G) (record_of file) unspelled

  module _ (ok : file_refusal file ≡ 0) where
    pub file_closed : Closed G.target
    unfolding game_of
    file_closed = target_closed (target_body file) (is_accepted file ok).bodies.target

    file_won_or_lost : RecordWon G (record_of file) ⊎ RecordLost G (record_of file)
    file_won_or_lost = record_won_or_lost G file_closed (record_of file) (is_accepted file ok).bodies.is_record.word.nested

  -- for every file exactly one number is the verdict's answer
  pub verdict_exactly : Exactly (VerdictOf file)
  verdict_exactly = refusal_exactly (file_refusal file) _ (λ ok. yes_or_no_exactly not_both (file_won_or_lost ok))
