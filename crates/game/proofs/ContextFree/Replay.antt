-- The game of the verdict is the source's own, without replay (SPEC 10.24): on every accepted file the record is won exactly when Juliet
-- has a winning replay-free strategy, and lost exactly when Romeo has one that beats them all.
use mathlib.Core.Path.{◌≡◌}
use mathlib.Core.Bool.{Bool, true, false}
use mathlib.Core.Logic.Iff
use mathlib.Core.Logic.{⊎_elim, ◌↔◌}
use mathlib.Core.List.{List}
use Prim.Native.Nat.{ℕ}
use Rattle.words.specs.Tag.{Word}
use Rattle.words.specs.Forest.{WellNested}
use Rattle.words.proofs.Marks.{fetchable_code}
use Rattle.words.proofs.Truth.{true_or_false}
use Rattle.automata.specs.Reply.{Lawful}
use Rattle.automata.specs.Target.{Closed}
use Rattle.contents.proofs.ContentLaws.{fetchable_form}
use Rattle.job.specs.File.{file_refusal}
use Rattle.job.proofs.Accepted.{is_accepted}
use Rattle.game.specs.Game.{Game}
use Rattle.game.specs.Job.{game_of, record_of}
use Rattle.game.specs.Verdict.{RecordWon, RecordLost, VerdictOf}
use Rattle.game.specs.ContextFree.{CfGame, Proper, context_free, JulietHasStrategy, RomeoHasStrategy}
use Rattle.game.proofs.HeldGame.{HeldFits}
use Rattle.game.proofs.Answers.{yes_or_no_as}
use Rattle.game.proofs.Determined.{tested, start, start_fits, tested_won, tested_lost, file_closed}
use Rattle.game.proofs.ContextFree.Juliet.{juliet_strategy}
use Rattle.game.proofs.ContextFree.Romeo.{romeo_strategy}
use Rattle.game.specs.VerdictPaper.{VerdictPaper}

-- not both have one: the two would win the same play
not_both : (G : CfGame) (w : Word) → JulietHasStrategy G w → RomeoHasStrategy G w → ⊥
unfolding JulietHasStrategy RomeoHasStrategy
not_both G w (σ, free, wins) (τ, beats) = beats σ free (wins τ)

-- a game with a lawful reply for each fetchable code, and a record
module _ (G : Game) (is_closed : Closed G.target) (answered : (c : ℕ) → G.fetchable c ≡ true → (y : Word) × Lawful (G.forms c) y)
    (w : Word) (nested : WellNested w) where
  abbrev won : Bool
  won = tested G is_closed w (start G is_closed w nested)

  fits : HeldFits G w (start G is_closed w nested)
  fits = start_fits G is_closed w nested

  juliet_has : won ≡ true → JulietHasStrategy (context_free G) w
  juliet_has = juliet_strategy G is_closed w nested fits

  romeo_has : won ≡ false → RomeoHasStrategy (context_free G) w
  romeo_has = romeo_strategy G is_closed answered w nested fits

  won_strategy : JulietHasStrategy (context_free G) w ↔ RecordWon G w
  won_strategy = (
    λ j. ⊎_elim (tested_won G is_closed w nested).1 (λ e. absurd (not_both (context_free G) w j (romeo_has e))) (true_or_false won),
    λ r. juliet_has ((tested_won G is_closed w nested).0 r),
  )

  lost_strategy : RomeoHasStrategy (context_free G) w ↔ RecordLost G w
  lost_strategy = (
    λ r. ⊎_elim (λ e. absurd (not_both (context_free G) w (juliet_has e) r)) (tested_lost G is_closed w nested).1 (true_or_false won),
    λ l. romeo_has ((tested_lost G is_closed w nested).0 l),
  )

module _ (file : List ℕ) (ok : file_refusal file ≡ 0) where
  answers : (c : ℕ) → (game_of file).fetchable c ≡ true → (y : Word) × Lawful ((game_of file).forms c) y
  unfolding game_of
  answers c m = (is_accepted file ok).bodies.answered c (fetchable_form c m)

  -- the game of an accepted file is one of the source's games (SPEC 10.3)
  pub proper : Proper (context_free (game_of file))
  unfolding game_of
  proper =
      record {
        symbols = fetchable_code;
        rules = λ a y r. (r.0, r.1.nested);
        target = λ w t. t.0;
        answered = λ a m. let l = answers a m in (l.0, (m, l.1));
      }

  pub won_juliet : JulietHasStrategy (context_free (game_of file)) (record_of file) ↔ RecordWon (game_of file) (record_of file)
  won_juliet =
      won_strategy (game_of file) (file_closed file ok) answers (record_of file) (is_accepted file ok).bodies.is_record.word.nested

  pub lost_romeo : RomeoHasStrategy (context_free (game_of file)) (record_of file) ↔ RecordLost (game_of file) (record_of file)
  lost_romeo =
      lost_strategy (game_of file) (file_closed file ok) answers (record_of file) (is_accepted file ok).bodies.is_record.word.nested

pub verdict_paper : (file : List ℕ) (r : ℕ) → VerdictOf file r → file_refusal file ≡ 0 → VerdictPaper file r
verdict_paper file r v ok = yes_or_no_as (Iff.symm (won_juliet file ok)) (Iff.symm (lost_romeo file ok)) (v.given ok)
