-- For every file and every play whatever, exactly one number is the answer of advice.
use mathlib.Core.Path.{◌≡◌, refl}
use mathlib.Core.List.{List}
use Prim.Native.Nat.{ℕ}
use native.Mathlib.Decide.{ℕ_discrete}
use Rattle.words.specs.Exactly.{Exactly}
use Rattle.contents.specs.Contents.{record_bytes}
use Rattle.game.specs.Job.{game_of, record_of}
use Rattle.play.specs.Play.{held_of, tags_left}
use Rattle.play_advice.specs.Advice.{advice_refusal, AdviceOf}
use Rattle.play.specs.declared.Play.{Play}
use Rattle.demand.proofs.Advised.{one_advice}
use Rattle.play.proofs.EntryLaws.{file_playable}
use Rattle.play_advice.proofs.AdviceRefusals.{advice_passed}
use Rattle.demand.proofs.MovedPlay.{held_fits}

module _ (file : List ℕ) (p : Play) where
  refused_one : ¬ (advice_refusal file p ≡ 0) → Exactly (AdviceOf file p)
  refused_one n =
      record {
        value = advice_refusal file p;
        right = record { refused = λ _. refl; given = λ z. absurd (n z) };
        only = λ a v. v.refused n;
      }

  given_one : advice_refusal file p ≡ 0 → Exactly (AdviceOf file p)
  given_one z =
      let passed = advice_passed file p z in
      let one =
      one_advice (game_of file) (file_playable file passed.0).closed_target (tags_left (record_of file) p) (held_of p)
      (held_fits (game_of file) (record_bytes file) (file_playable file passed.0) p passed.1) in
      record {
        value = one.value;
        right = record { refused = λ n. absurd (n z); given = λ _. one.right };
        only = λ a v. one.only a (v.given z);
      }

  pub advice_exactly : Exactly (AdviceOf file p)
  advice_exactly = elim (ℕ_discrete (advice_refusal file p) 0) [ yes z ↦ given_one z | no n ↦ refused_one n ]
