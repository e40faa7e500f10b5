-- Laws of truth values, and of a test that tells whether something holds.
use mathlib.Core.Path.{◌≡◌, refl, sym}
use mathlib.Core.Bool.{Bool, true, false, not, ◌&&◌, ◌||◌, beq, and-eq-true_iff, false≢true, true≢false}
use mathlib.Core.Logic.{◌⊎◌, inl, inr, ⊎_elim, ◌↔◌}

pub and_both : (a b : Bool) → (a && b) ≡ true → (a ≡ true) × (b ≡ true)
and_both a b = (and-eq-true_iff a b).0

pub or_either : (a b : Bool) → ((a || b) ≡ true) ↔ ((a ≡ true) ⊎ (b ≡ true))
or_either true b = (λ e. inl refl, λ e. refl)
or_either false b = (λ e. inr e, λ e. ⊎_elim (λ f. absurd (false≢true f)) (λ t. t) e)

pub or_neither : (a b : Bool) → (a || b) ≡ false → (a ≡ false) × (b ≡ false)
or_neither true b e = absurd (true≢false e)
or_neither false b e = (refl, e)

pub true_or_false : (b : Bool) → (b ≡ true) ⊎ (b ≡ false)
true_or_false true = inl refl
true_or_false false = inr refl

pub not_true : (b : Bool) → (b ≡ true → ⊥) → b ≡ false
not_true true n = absurd (n refl)
not_true false n = refl

pub beq_same : (a b : Bool) → beq a b ≡ true → a ≡ b
beq_same true true e = refl
beq_same true false e = sym e
beq_same false true e = e
beq_same false false e = refl

pub same_truth : (a b : Bool) → (a ≡ true) ↔ (b ≡ true) → a ≡ b
same_truth true b (h, k) = sym (h refl)
same_truth false true (h, k) = k refl
same_truth false false (h, k) = refl

-- a test that tells whether A holds: its answers, and what they say
pub told_yes : {A : Type 0} → A → (true ≡ true) ↔ A
told_yes a = (λ _. a, λ _. refl)

pub told_no : {A : Type 0} → ¬ A → (false ≡ true) ↔ A
told_no n = (λ e. absurd (false≢true e), λ a. absurd (n a))

pub told_not : {A : Type 0} (b : Bool) → (b ≡ true) ↔ A → not b ≡ true → ¬ A
told_not true t e a = true≢false (sym e)
told_not false t e a = false≢true (t.1 a)

pub told : {A : Type 0} (b : Bool) → (b ≡ true) ↔ A → not b ≡ false → A
told true t e = t.0 refl
told false t e = absurd (true≢false e)
