-- Laws of refusals: a number is given exactly when its own condition holds and none before it does.
use mathlib.Core.Path.{◌≡◌, refl, sym, ◌∙◌}
use mathlib.Core.Bool.{Bool, true, false, decide}
use mathlib.Core.Logic.{inl, inr, ⊎_elim, ◌↔◌, if_pos, if_neg}
use mathlib.Core.List.{List, [], ◌∷◌, ◌++◌}
use Prim.Native.Nat.{ℕ}
use Rattle.words.specs.Decide.Deciders.{not?}
use Rattle.words.proofs.Decided.{decided_true, decided_false}
use Rattle.job.specs.Refusal.{RefusalRule, rule, first_of}
use Rattle.job.specs.Refusal.{Given}

-- of each rule of a list
abbrev pub EachRule : (RefusalRule → Type 0) → List RefusalRule → Type 0
EachRule P [] = Unit {0}
EachRule P (r ∷ rs) = P r × EachRule P rs

-- no rule has the number 0, which says that none was broken
abbrev pub Numbered : List RefusalRule → Type 0
Numbered = EachRule (λ r. r.number ≡ 0 → ⊥)

-- none of the conditions holds
abbrev pub NoneBroken : List RefusalRule → Type 0
NoneBroken = EachRule (λ r. ¬ r.Broken)

module _ (r : RefusalRule) (rs : List RefusalRule) where
  pub first_broken : r.Broken → first_of (r ∷ rs) ≡ r.number
  unfolding first_of
  first_broken b = if_pos r.broken? b r.number (first_of rs)

  pub first_kept : ¬ r.Broken → first_of (r ∷ rs) ≡ first_of rs
  unfolding first_of
  first_kept n = if_neg r.broken? n r.number (first_of rs)

pub passed_first : (rs : List RefusalRule) → NoneBroken rs → first_of rs ≡ 0
unfolding first_of
passed_first [] p = refl
passed_first (r ∷ rs) p = first_kept r rs p.0 ∙ passed_first rs p.1

pub first_passed : (rs : List RefusalRule) → Numbered rs → first_of rs ≡ 0 → NoneBroken rs
first_passed [] n e = tt
first_passed (r ∷ rs) n e =
    elim r.broken? [
      | yes b ↦ absurd (n.0 (sym (first_broken r rs b) ∙ e))
      | no k ↦ (k, first_passed rs n.1 (sym (first_kept r rs k) ∙ e))
    ]

-- the number n, which is not 0, is given exactly so
pub given : (rs : List RefusalRule) (n : ℕ) → (n ≡ 0 → ⊥) → (first_of rs ≡ n) ↔ Given rs n
unfolding first_of
given [] n z = (λ e. z (sym e), λ g. absurd g)
given (r ∷ rs) n z =
    let there : first_of (r ∷ rs) ≡ n → Given (r ∷ rs) n =
    λ e. elim r.broken? [
      | yes b ↦ inl (b, sym (first_broken r rs b) ∙ e)
      | no k ↦ inr (k, (given rs n z).0 (sym (first_kept r rs k) ∙ e))
    ] in
    let back : Given (r ∷ rs) n → first_of (r ∷ rs) ≡ n =
    λ g. ⊎_elim (λ x. first_broken r rs x.0 ∙ x.1) (λ x. first_kept r rs x.0 ∙ (given rs n z).1 x.1) g in
    (there, back)

-- one list after another: the second is asked where the first lets pass
pub append_passed : (a b : List RefusalRule) → NoneBroken a → first_of (a ++ b) ≡ first_of b
append_passed [] b p = refl
append_passed (r ∷ a) b p = first_kept r (a ++ b) p.0 ∙ append_passed a b p.1

pub append_refused : (a b : List RefusalRule) → (first_of a ≡ 0 → ⊥) → first_of (a ++ b) ≡ first_of a
unfolding first_of
append_refused [] b z = absurd (z refl)
append_refused (r ∷ a) b z =
    elim r.broken? [
      | yes h ↦ first_broken r (a ++ b) h ∙ sym (first_broken r a h)
      | no k ↦ first_kept r (a ++ b) k ∙ append_refused a b (λ e. z (first_kept r a k ∙ e)) ∙ sym (first_kept r a k)
    ]

-- what holds of the rules of two lists
pub append_each : (P : RefusalRule → Type 0) (a b : List RefusalRule) → EachRule P a → EachRule P b → EachRule P (a ++ b)
append_each P [] b m n = n
append_each P (r ∷ a) b m n = (m.0, append_each P a b m.1 n)

pub append_numbered : (a b : List RefusalRule) → Numbered a → Numbered b → Numbered (a ++ b)
append_numbered = append_each _

pub append_parts : (a b : List RefusalRule) → NoneBroken (a ++ b) → NoneBroken a × NoneBroken b
append_parts [] b p = (tt, p)
append_parts (r ∷ a) b p = let q = append_parts a b p.1 in ((p.0, q.0), q.1)

-- a decidable condition that does not fail holds
pub not_failing : {A : Type 0} → Dec A → ¬ ¬ A → A
not_failing d n = elim d [ yes a ↦ a | no m ↦ absurd (n m) ]

-- what a program's test of a condition says of a list that begins with the refusal of its failure
module _ (n : ℕ) {A : Type 0} (d : Dec A) (rs : List RefusalRule) (b : Bool) (e : b ≡ decide d) where
  pub test_fails : b ≡ false → first_of (rule n (¬ A) (not? d) ∷ rs) ≡ n
  test_fails f = first_broken (rule n (¬ A) (not? d)) rs (decided_false d (sym e ∙ f))

  pub test_holds : b ≡ true → first_of (rule n (¬ A) (not? d) ∷ rs) ≡ first_of rs
  test_holds t = first_kept (rule n (¬ A) (not? d)) rs (λ f. f (decided_true d (sym e ∙ t)))
