-- From the states that a mask has not to the losing reply, of every game that is played with the target and the sets.
use mathlib.Core.Path.{◌≡◌, sym, ◌∙◌}
use mathlib.Core.Bool.{true, true≢false}
use mathlib.Core.Logic.{◌↔◌, ⊎_elim}
use mathlib.Core.List.{List, ◌∷◌}
use Prim.Native.Nat.{ℕ, ◌-◌, ◌<◌}
use lib.ListN.{get_or}
use Rattle.words.specs.Stack.{newest_first}
use Rattle.words.specs.Tag.{closing, word_of}
use Rattle.words.specs.Vocabulary.{fetchable}
use Rattle.words.proofs.Truth.{true_or_false}
use Rattle.automata.specs.Bits.{bit}
use Rattle.automata.specs.Reply.{Form}
use Rattle.automata.specs.Target.{Closed, at}
use Rattle.automata.specs.TargetBody.{target_of, ValidTarget}
use Rattle.automata.proofs.TargetTables.{target_closed}
use Rattle.effects.specs.Inner.Lent.{LentOf}
use Rattle.effects.specs.declared.Shortest.{Shortest}
use Rattle.effects.specs.declared.Shortest.TheVariants.{Unreached, Tags, Longer}
use Rattle.shortest.specs.Inner.First.{Outside, FoundInto}
use Rattle.contents.specs.Contents.{has_form}
use Rattle.game.specs.Game.{Game}
use Rattle.game.specs.Held.{held}
use Rattle.solver.specs.Inner.PlayedWith.{PlayedWith}
use Rattle.game.proofs.Solve.{won_lost}
use Rattle.game.proofs.Determined.{won_or_lost}
use Rattle.solver.proofs.GamesWith.{game_with, is_played, every_game}
use Rattle.advice.specs.Inner.WonFrom.{WonFrom, Left, LeftPast}
use Rattle.advice.proofs.LeftLaws.{newest_first_lem, left_fits}
use Rattle.losing.specs.Inner.Found.{OutcomeFound}
use Rattle.losing.proofs.LosingReplyLaws.{LostFrom, first_losing, none_loses}

module _ {target sets rest : List ℕ} (v : ValidTarget target) (kept : List ℕ) (depth m : ℕ) (past : LeftPast target sets rest kept depth)
    (won : WonFrom target sets (word_of rest) (newest_first kept (depth - 1)) m) (buffer left : List ℕ) where
  -- the state in which the element was opened, and those of the elements around
  abbrev q : ℕ
  q = get_or kept (depth - 1) 0

  abbrev ks : List ℕ
  ks = newest_first kept (depth - 1)

  abbrev hq : q < (target_of target).states
  hq = past.newest_state

  abbrev l : Left target sets rest kept (depth - 1)
  l = past.around

  -- in a game with these forms
  module _ (forms : ℕ → Form) (x : LentOf (target_of target) has_form forms sets) (c state : ℕ) (may : fetchable c ≡ true) where
    abbrev G : Game
    G = game_with target forms

    abbrev closed : Closed (target_of target)
    closed = target_closed target v

    -- the mask has not the states from which the rest is lost
    outside_lost : (s : ℕ) → s < (target_of target).states →
        Outside m s ↔ LostFrom G closed c state q (word_of rest) ks may hq (left_fits l forms) s
    outside_lost s h =
        let w = won G (is_played forms x) s h in (
          λ o.
              ⊎_elim (λ y. absurd (true≢false (sym (w.1 y) ∙ o))) (λ lost. lost)
              (won_or_lost G closed (word_of rest) (at s ks) (left_fits l forms s h)),
          λ lost.
              ⊎_elim (λ y. absurd (won_lost (held G) (word_of rest) (at s ks) (w.0 y) lost)) (λ o. o) (true_or_false (bit m s)),
        )

    found_with : (r : Shortest) → FoundInto (target_of target) (forms c) q (Outside m) buffer r left →
        OutcomeFound (held G) (closing c) (word_of rest) (at state (q ∷ ks)) buffer r left
    unfolding FoundInto OutcomeFound
    found_with Unreached (none, same) =
        (none_loses G closed c state q (word_of rest) ks may hq (left_fits l forms) (Outside m) outside_lost none, same)
    found_with (Tags n) (u, f, long, few, same) =
        (u, first_losing G closed c state q (word_of rest) ks may hq (left_fits l forms) (Outside m) outside_lost u f, long, few, same)
    found_with Longer (u, f, more, same) =
        (u, first_losing G closed c state q (word_of rest) ks may hq (left_fits l forms) (Outside m) outside_lost u f, more, same)

  pub outcome_found : (F : Form) (r : Shortest) → FoundInto (target_of target) F q (Outside m) buffer r left →
      (G : Game) → PlayedWith G target sets → (c state : ℕ) → fetchable c ≡ true → G.forms c ≡ F →
      OutcomeFound (held G) (closing c) (word_of rest) (at state (newest_first kept depth)) buffer r left
  outcome_found F r f =
      every_game
      (λ G. (c state : ℕ) → fetchable c ≡ true → G.forms c ≡ F →
      OutcomeFound (held G) (closing c) (word_of rest) (at state (newest_first kept depth)) buffer r left)
      (λ forms x c state may e. rw (newest_first_lem kept depth past.some_open) (found_with forms x c state may r (rw e f)))
