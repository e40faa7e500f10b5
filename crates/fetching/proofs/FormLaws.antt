-- The forms' relations, code by code: what is put in for one code leaves those of the codes before it.
use mathlib.Core.Path.{◌≡◌, sym, ◌∙◌, subst}
use mathlib.Core.List.{List}
use Prim.Native.Nat.{ℕ, ◌+◌, ◌*◌}
use native.Mathlib.Omega.{arith}
use native.Mathlib.Decide.{dec_lt}
use lib.ListN.{replicate, length-replicate}
use Rattle.replies.specs.Inner.Transitions.{transition_count, TransitionsOf, Compiled}
use Rattle.replies.proofs.TransitionLaws.{compiled_before, bare_zeros}
use Rattle.contents.proofs.ContentLaws.{form_between}
use Rattle.job.specs.File.{form_in}
use Rattle.fetching.specs.Inner.Forms.{form_relations, FormsBefore, FormsOf}

module _ (file : List ℕ) where
  -- below 12 no code has a form, and beyond 15 none has one
  pub forms_none : FormsBefore file 12 (replicate form_relations 0)
  forms_none =
      record {
        long = length-replicate {A = ℕ} form_relations 0;
        form = λ c h has. absurd (let k = (form_between c has).0 in omega arith);
        bare = bare_zeros form_relations (transition_count * 12);
      }

  pub forms_all : {t : List ℕ} → FormsBefore file 16 t → FormsOf file t
  forms_all k =
      record {
        long = k.long;
        form = λ c h has. k.form c (let l = (form_between c has).1 in omega arith) has;
        bare = λ j i h. k.bare j i (omega arith);
      }

  -- the codes up to 12 + i
  module _ (i : ℕ) {t : List ℕ} (k : FormsBefore file (12 + i) t) where
    pub forms_more : {t' : List ℕ} → Compiled (form_in file (12 + i)) (transition_count * (12 + i)) t t' →
        FormsBefore file (12 + (i + 1)) t'
    forms_more {t'} d =
        record {
          long = d.long ∙ k.long;
          form = λ c h has. elim (dec_lt c (12 + i)) [
            | yes l ↦ compiled_before d (omega arith) (k.form c l has)
            | no g ↦ let e : c ≡ 12 + i = omega arith in subst (λ x. TransitionsOf (form_in file x) (transition_count * x) t') (sym e) d.is
          ];
          bare = λ j i h. d.bare j i (omega arith);
        }
