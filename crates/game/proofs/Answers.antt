-- The shapes of answers: that exactly one number is right, and that one claim may stand for another.
use mathlib.Core.Path.{◌≡◌, refl}
use mathlib.Core.Logic.Iff
use mathlib.Core.Logic.{◌⊎◌, inl, inr, ◌↔◌}
use Prim.Native.Nat.{ℕ}
use native.Mathlib.Omega.{arith}
use native.Mathlib.Decide.{ℕ_discrete}
use Rattle.words.specs.Exactly.{Exactly}
use Rattle.job.specs.Refusal.{RefusalOr}
use Rattle.game.specs.Verdict.{YesOrNo}

-- exactly one number is right if it is so where nothing is refused
pub refusal_exactly : (refusal : ℕ) (Promised : ℕ → Type 0) → (refusal ≡ 0 → Exactly Promised) → Exactly (RefusalOr refusal Promised)
refusal_exactly refusal Promised one =
    elim (ℕ_discrete refusal 0) [
      | yes z ↦
          let x = one z in
          record {
            value = x.value;
            right = record { refused = λ n. absurd (n z); given = λ _. x.right };
            only = λ r v. x.only r (v.given z);
          }
      | no n ↦
          record { value = refusal; right = record { refused = λ _. refl; given = λ z. absurd (n z) }; only = λ r v. v.refused n }
    ]

-- of two claims that exclude each other one holds
pub yes_or_no_exactly : {A B : Type 0} → (A → B → ⊥) → A ⊎ B → Exactly (YesOrNo A B)
yes_or_no_exactly not_both (inl a) =
    record {
      value = 1;
      right = record { yes = (λ _. a, λ _. refl); no = (λ e. absurd (omega arith), λ b. absurd (not_both a b)) };
      only = λ r v. v.yes.1 a;
    }
yes_or_no_exactly not_both (inr b) =
    record {
      value = 0;
      right = record { yes = (λ e. absurd (omega arith), λ a. absurd (not_both a b)); no = (λ _. b, λ _. refl) };
      only = λ r v. v.no.1 b;
    }

pub yes_or_no_as : {A B A' B' : Type 0} {r : ℕ} → A ↔ A' → B ↔ B' → YesOrNo A B r → YesOrNo A' B' r
yes_or_no_as a b v = record { yes = Iff.trans v.yes a; no = Iff.trans v.no b }
