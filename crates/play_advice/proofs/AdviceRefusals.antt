-- When advice is refused: by the file, or because the play does not fit.
use mathlib.Core.Path.{◌≡◌, sym, ◌∙◌}
use mathlib.Core.Logic.{◌↔◌}
use mathlib.Core.List.{List, [], ◌∷◌, ◌++◌}
use Prim.Native.Nat.{ℕ}
use native.Mathlib.Omega.{arith}
use lib.Dec.{lit<}
use Rattle.job.specs.Refusal.{RefusalRule, Given}
use Rattle.job.specs.File.{file_rules, file_refusal}
use Rattle.job.specs.RefusalNumber.{refusal_number}
use Rattle.job.specs.declared.refusal.Refusal.{Refusal}
use Rattle.job.proofs.Refusals.{given, first_broken, passed_first, first_passed, not_failing, append_numbered, append_parts}
use Rattle.job.proofs.Accepted.{numbered, positive}
use Rattle.job.proofs.RefusalNumbers.{number_positive}
use Rattle.game.specs.Job.{game_of, record_of}
use Rattle.play.specs.Play.{PlayFits}
use Rattle.play.specs.Decide.Play.{play_fits?}
use Rattle.play.specs.MoveRules.{rule21}
use Rattle.play.specs.declared.Play.{Play}
use Rattle.play.proofs.EntryLaws.{file_first, file_passed}
use Rattle.play_advice.specs.Advice.{advice_rules, advice_refusal}

-- 21 of a play that is lent no buffer
abbrev pub unfit : List ℕ → Play → RefusalRule
unfit file p = rule21 (game_of file).target (record_of file) p p.count

-- where advice is not refused, the file is accepted and the play fits
pub advice_passed : (file : List ℕ) (p : Play) → advice_refusal file p ≡ 0 →
    (file_refusal file ≡ 0) × PlayFits (game_of file).target (record_of file) p
unfolding advice_refusal file_refusal
advice_passed file p z =
    let rules = unfit file p ∷ [] in
    let n = append_numbered (file_rules file) rules (numbered file) (positive 21 (lit< tt), tt) in
    let parts = append_parts (file_rules file) rules (first_passed (file_rules file ++ rules) n z) in
    let fits = not_failing (play_fits? (game_of file).target (record_of file) p) (λ n. parts.1.0 (λ f. n f.0)) in
    (passed_first (file_rules file) parts.0, fits)

-- and where the file is accepted and the play fits, it is not refused
pub advice_passes : (file : List ℕ) → file_refusal file ≡ 0 → (p : Play) → PlayFits (game_of file).target (record_of file) p →
    advice_refusal file p ≡ 0
unfolding advice_refusal
advice_passes file e p f = file_passed file _ e ∙ passed_first _ (λ n. n (f, omega arith), tt)

-- what refuses it: the file, or 21
module _ (file : List ℕ) (p : Play) where
  pub advice_by_file : (e : Refusal) → file_refusal file ≡ refusal_number e → advice_refusal file p ≡ refusal_number e
  unfolding advice_refusal
  advice_by_file e k = file_first file (unfit file p ∷ []) (λ z. number_positive e (sym k ∙ z)) ∙ k

  pub advice_by_21 : file_refusal file ≡ 0 → ¬ PlayFits (game_of file).target (record_of file) p → advice_refusal file p ≡ 21
  unfolding advice_refusal
  advice_by_21 z n = file_passed file (unfit file p ∷ []) z ∙ first_broken (unfit file p) [] (λ h. n h.0)

-- Each number is given to a call for advice exactly when its own condition holds and none before it does.
pub advice_given : (file : List ℕ) (p : Play) (n : ℕ) → (n ≡ 0 → ⊥) →
    (advice_refusal file p ≡ n) ↔ Given (advice_rules file p) n
unfolding advice_refusal
advice_given file p n z = given (advice_rules file p) n z
