-- What a play that fits an accepted file's record has left of it.
use mathlib.Core.Path.{◌≡◌, sym, ap, subst, subst₂}
use mathlib.Core.HLevel.{hedberg}
use mathlib.Core.List.{List, List-discrete}
use mathlib.Core.Logic.{∥∥₁_elim}
use Prim.Native.Nat.{ℕ, ◌-◌, ◌<◌}
use native.Mathlib.Decide.{ℕ_discrete}
use lib.ListN.{length, take, drop}
use Rattle.words.specs.Opened.{open_at}
use Rattle.words.proofs.Bytes.{word_drop}
use Rattle.words.proofs.RestLaws.{rest_nested, rest_at}
use Rattle.automata.specs.TargetBody.{target_of}
use Rattle.effects.specs.Inner.Sets.{sets_of}
use Rattle.effects.specs.declared.Effects.{Effects}
use Rattle.contents.specs.Contents.{target_body, record_bytes}
use Rattle.job.specs.Accepted.{Accepted}
use Rattle.job.proofs.Accepted.{file_not_refused}
use Rattle.job.proofs.LoadedExactly.{file_effects}
use Rattle.game.specs.Job.{game_of, record_of}
use Rattle.solver.specs.Inner.PlayedWith.{PlayedWith}
use Rattle.solver.proofs.VerdictLaws.{file_plays, file_judgeable}
use Rattle.advice.specs.Inner.WonFrom.{Left}
use Rattle.advice.proofs.LeftLaws.{drop_whole, judgeable_drop}
use Rattle.play.specs.Play.{PlayFits}
use Rattle.play.specs.declared.Play.{Play}
use Rattle.play_advice.specs.Inner.FileEffects.{FileEffects}

-- One value alone is the effects of an accepted file, so that they are can be told from its being so somehow.
pub effects_found : (file : List ℕ) → Accepted file → {E : Effects} → ∥ FileEffects file E ∥₁ → FileEffects file E
effects_found file a {E} t =
    let x = file_effects file (file_not_refused file a) in
    let same : x.value.numbers ≡ E.numbers =
    ∥∥₁_elim t (hedberg (List-discrete ℕ_discrete) _ _) (λ e. sym (ap (λ k. k.numbers) (x.only E e))) in
    subst (FileEffects file) (λ i. record { numbers = same i }) x.right

module _ (file : List ℕ) (a : Accepted file) (E : Effects) (found : ∥ FileEffects file E ∥₁) (p : Play)
    (f : PlayFits (game_of file).target (record_of file) p) where
  pub left_play : Left (target_body file) (sets_of E) (drop p.position (record_bytes file)) p.kept p.depth
  unfolding open_at game_of
  left_play =
      let n = a.bodies.is_record in
      record {
        judgeable = judgeable_drop p.position (file_judgeable file E (effects_found file a found) a);
        suffix = rw (word_drop p.position (record_bytes file), f.as_many)
            (rest_at (record_of file) 0 p.position (rest_nested n.word.nested n.shallow));
        kept_states = f.kept_states;
      }

  -- the same of the bodies as the code has them
  module _ {target sets bytes : List ℕ} (is-target : target ≡ target_body file) (is-sets : sets ≡ sets_of E)
      (is_record : bytes ≡ record_bytes file) where
    pub left_here : Left target sets (take (length bytes - p.position) (drop p.position bytes)) p.kept p.depth
    left_here = rw (is-target, is-sets, is_record, drop_whole (record_bytes file) p.position) left_play

    pub state_here : p.state < (target_of target).states
    unfolding game_of
    state_here = rw is-target f.own_state

    pub plays_here : PlayedWith (game_of file) target sets
    plays_here = subst₂ (PlayedWith (game_of file)) (sym is-target) (sym is-sets) (file_plays file E (effects_found file a found))
