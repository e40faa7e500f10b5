-- The games that are played with a target body and sets that were lent: they differ in their reply forms alone, and the sets list the
-- results of each fetch, no more and no less.
use mathlib.Core.Path.{◌≡◌, refl, sym, ◌∙◌, ap, subst, fun_ext}
use mathlib.Core.Bool.{Bool}
use mathlib.Core.List.{List}
use Prim.Native.Nat.{ℕ}
use Rattle.words.specs.Vocabulary.{fetchable}
use Rattle.automata.specs.Reply.{Form}
use Rattle.automata.specs.Target.{Target}
use Rattle.automata.specs.TargetBody.{target_of, ValidTarget}
use Rattle.automata.proofs.TargetTables.{target_closed, few_target_states}
use Rattle.effects.specs.Inner.Lent.{results, LentOf}
use Rattle.effects.proofs.EffectLaws.{results_exact}
use Rattle.contents.specs.Contents.{has_form}
use Rattle.contents.proofs.ContentLaws.{form_code, fetchable_form}
use Rattle.game.specs.Game.{Game}
use Rattle.game.specs.Held.{replacing}
use Rattle.game.specs.Listed.{Listed}
use Rattle.solver.specs.Inner.PlayedWith.{PlayedWith}
use Rattle.game.proofs.HeldGame.{Exact, held_listed}

-- the game of a target, fetchable codes and reply forms
abbrev made : Target → (ℕ → Bool) → (ℕ → Form) → Game
made A m forms = record { target = A; fetchable = m; forms = forms }

abbrev pub game_with : List ℕ → (ℕ → Form) → Game
game_with target forms = made (target_of target) fetchable forms

module _ {target sets : List ℕ} where
  module _ (forms : ℕ → Form) (x : LentOf (target_of target) has_form forms sets) where
    pub is_played : PlayedWith (game_with target forms) target sets
    is_played = record { target_is = refl; marks = λ c. refl; effects = x }

    module _ (v : ValidTarget target) where
      pub effects_are : Exact (game_with target forms) (results sets)
      effects_are c q s m h =
          let t = fetchable_form c m in
          results_exact (target_of target) has_form forms sets x c q (form_code c t) t h (target_closed target v)
          (few_target_states target v) s

      abbrev pub listed_with : Listed (replacing (game_with target forms))
      listed_with = held_listed (game_with target forms) (results sets) (target_closed target v) effects_are

  -- what holds of these games holds of every game that is played so
  pub every_game : (P : Game → Type 0) → ((forms : ℕ → Form) → LentOf (target_of target) has_form forms sets → P (game_with target forms)) →
      (G : Game) → PlayedWith G target sets → P G
  every_game P h G p =
      let same : G ≡ game_with target G.forms =
      ap (λ m. made G.target m G.forms) (fun_ext p.marks) ∙ ap (λ A. made A fetchable G.forms) p.target_is in
      subst P (sym same) (h G.forms p.effects)
