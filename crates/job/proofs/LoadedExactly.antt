-- For every file exactly one answer of the loader is right: its refusal, or where its bodies begin and the effects of its forms.
use mathlib.Core.Path.{◌≡◌, refl, sym, ◌∙◌, ap}
use mathlib.Core.List.{List}
use Prim.Native.Nat.{ℕ}
use native.Mathlib.Decide.{ℕ_discrete}
use Rattle.std.specs.Prelude.{Result, Ok, Err}
use Rattle.words.specs.Exactly.{Exactly}
use Rattle.automata.specs.TargetBody.{target_of}
use Rattle.automata.proofs.TargetTables.{target_closed, few_target_states}
use Rattle.effects.specs.Effects.{EffectsOf}
use Rattle.effects.proofs.EffectsExactly.{effects_exactly}
use Rattle.contents.specs.Contents.{has_form, target_body, offsets_of}
use Rattle.contents.proofs.ContentLaws.{form_code}
use Rattle.job.specs.File.{form_in, file_refusal}
use Rattle.job.specs.RefusalNumber.{refusal_number}
use Rattle.job.specs.Loaded.{LoadedOf}
use Rattle.job.specs.declared.loader.Job.{Job}
use Rattle.job.specs.declared.refusal.Refusal.{Refusal}
use Rattle.job.proofs.RefusalNumbers.{number_positive, number_injective}
use Rattle.job.proofs.Accepted.{is_accepted, file_refused}

module _ (file : List ℕ) where
  -- the effects of an accepted file's forms
  pub file_effects : file_refusal file ≡ 0 → Exactly (EffectsOf (target_of (target_body file)) has_form (form_in file))
  file_effects ok =
      let v = (is_accepted file ok).bodies.target in
      effects_exactly (target_of (target_body file)) has_form (form_in file) (target_closed (target_body file) v)
      (few_target_states (target_body file) v) form_code

  only_job : (z : file_refusal file ≡ 0) (r : Result Job Refusal) → LoadedOf file r →
      r ≡ Ok (record { offsets = record { at = offsets_of file }; effects = (file_effects z).value })
  only_job z (Ok job) o =
      λ i. Ok (record { offsets = record { at = o.offsets_are_of.at i }; effects = (file_effects z).only job.effects o.effects i })
  only_job z (Err e) o = absurd (number_positive e (sym o ∙ z))

  only_refusal : {e : Refusal} → (file_refusal file ≡ 0 → ⊥) → file_refusal file ≡ refusal_number e → (r : Result Job Refusal) →
      LoadedOf file r → r ≡ Err e
  only_refusal n x (Ok job) o = absurd (n o.offsets_are_of.accepted)
  only_refusal {e} n x (Err d) o = ap Err (number_injective d e (sym o ∙ x))

  pub loaded_exactly : Exactly (LoadedOf file)
  loaded_exactly =
      elim (ℕ_discrete (file_refusal file) 0) [
        | yes z ↦
            let x = file_effects z in
            record {
              value = Ok (record { offsets = record { at = offsets_of file }; effects = x.value });
              right = record { offsets_are_of = record { accepted = z; at = refl }; effects = x.right };
              only = only_job z;
            }
        | no n ↦
            let (e, x) = file_refused file n in
            record { value = Err e; right = x; only = only_refusal n x }
      ]
