-- Checks: a test that computes, and that proves its condition where it passes. Of a condition on closed bytes it is enough to compute.
use mathlib.Core.Path.{◌≡◌, refl, sym, ◌∙◌, ap, subst}
use mathlib.Core.Bool.{Bool, true, false, cond, ◌&&◌, ◌||◌, false≢true}
use mathlib.Core.Logic.{⊎_elim}
use mathlib.Core.List.Memᴰ
use mathlib.Core.List.{List, [], ◌∷◌, Memᴰ}
use Prim.Native.Nat.{ℕ, zero, suc, ◌<◌, ◌≤◌}
use native.Mathlib.Omega.{arith}
use native.Mathlib.Decide.{ℕ_discrete}
use native.Mathlib.Nat.{not-suc-le-zero}
use borrow.Author.Tests.{ltb-true, leb-true, eqb-true, eq-eqb}
use lib.Dec.{ltb, leb, eqb}
use Rattle.words.proofs.Truth.{and_both, or_either}

-- a test, and that it proves the condition A where it passes
pub record Check (A : Type 0) : Type 0 where
  pub passes : Bool
  pub proves : passes ≡ true → A

abbrev pub less : (a b : ℕ) → Check (a < b)
less a b = record { passes = ltb a b; proves = ltb-true a b }

abbrev pub at_most : (a b : ℕ) → Check (a ≤ b)
at_most a b = record { passes = leb a b; proves = leb-true a b }

abbrev pub same : (a b : ℕ) → Check (a ≡ b)
same a b = record { passes = eqb a b; proves = eqb-true a b }

abbrev pub is_true : (b : Bool) → Check (b ≡ true)
is_true b = record { passes = b; proves = λ e. e }

abbrev pub never : {A : Type 0} → Check A
never = record { passes = false; proves = λ e. absurd (false≢true e) }

abbrev pub always : {A : Type 0} → A → Check A
always a = record { passes = true; proves = λ e. a }

abbrev pub agree : (a b : Bool) → Check (a ≡ b)
agree true true = always refl
agree true false = never
agree false true = never
agree false false = always refl

abbrev pub gives : {A B : Type 0} → (A → B) → Check A → Check B
gives f s = record { passes = s.passes; proves = λ e. f (s.proves e) }

abbrev pub both : {A B : Type 0} → Check A → Check B → Check (A × B)
both s t =
    record {
      passes = s.passes && t.passes;
      proves = λ e. let k = and_both s.passes t.passes e in (s.proves k.0, t.proves k.1);
    }

-- what need hold only of equal numbers
pub where_same : (a b : ℕ) (t : Bool) → cond (eqb a b) t true ≡ true → a ≡ b → t ≡ true
where_same a b t e h = sym (ap (λ x. cond x t true) (eq-eqb a b h)) ∙ e

abbrev pub if_same : {A : Type 0} (a b : ℕ) → Check A → Check (a ≡ b → A)
if_same a b s = record { passes = cond (eqb a b) s.passes true; proves = λ e h. s.proves (where_same a b s.passes e h) }

-- what need hold only where a test is true
abbrev pub if_true : {A : Type 0} (b : Bool) → Check A → Check (b ≡ true → A)
if_true true s = gives (λ a t. a) s
if_true false s = always (λ t. absurd (false≢true t))

-- at each number below a bound
pub at_or_below : (P : ℕ → Type 0) (n : ℕ) → P n → ((i : ℕ) → i < n → P i) → (i : ℕ) → i < suc n → P i
at_or_below P n p f i h = elim (ℕ_discrete i n) [ yes e ↦ rw e p | no d ↦ f i (omega arith) ]

abbrev pub below : {P : ℕ → Type 0} → ((i : ℕ) → Check (P i)) → (n : ℕ) → Check ((i : ℕ) → i < n → P i)
below c zero = always (λ i h. absurd (not-suc-le-zero h))
below {P} c (suc n) = gives (λ (p, f). at_or_below P n p f) (both (c n) (below c n))

-- at each member of a list, and at some member
abbrev pub each : {X : Type 0} {P : X → Type 0} → ((x : X) → Check (P x)) → (l : List X) → Check ((x : X) → Memᴰ x l → P x)
each c [] = always (λ x m. absurd (Memᴰ.not-nil m))
each {P = P} c (y ∷ l) = gives (λ (p, f) x m. ⊎_elim (λ e. subst P (sym e) p) (f x) (Memᴰ.cases_cons m)) (both (c y) (each c l))

abbrev pub some : {X : Type 0} {P : X → Type 0} → ((x : X) → Check (P x)) → (l : List X) → Check ((x : X) × Memᴰ x l × P x)
some c [] = never
some c (y ∷ l) =
    record {
      passes = (c y).passes || (some c l).passes;
      proves = λ e.
          ⊎_elim (λ h. (y, Memᴰ.head refl, (c y).proves h))
          (λ h. let r = (some c l).proves h in (r.0, Memᴰ.tail r.1, r.2))
          ((or_either (c y).passes (some c l).passes).0 e);
    }

-- both tests pass if the first does and the second then does; nobody has come to the other case
pass_on : {A B : Type 0} (b c : Bool) → ¬ B → (A → c ≡ true) → cond b A B → (b && c) ≡ true
pass_on true c n f h = f h
pass_on false c n f h = absurd (n h)

-- `each`, with an error that names the first member to fail. What is left to prove is nothing if all pass, and else something absurd of the
-- first that does not: the checker shows no computed value, but `omega` answers at which numbers a statement is false.
module _ {X : Type 0} {P : X → Type 0} (check : (x : X) → Check (P x)) (Absurd : X → Type 0) where
  abbrev pub OfFailing : List X → Type 0
  OfFailing [] = Unit
  OfFailing (x ∷ l) = cond (check x).passes (OfFailing l) (Absurd x)

  module _ (refuted : (x : X) → ¬ Absurd x) where
    none_fails : (l : List X) → OfFailing l → (each check l).passes ≡ true
    none_fails [] h = refl
    none_fails (x ∷ l) h = pass_on (check x).passes (each check l).passes (refuted x) (none_fails l) h

    pub each_named : (l : List X) → OfFailing l → (x : X) → Memᴰ x l → P x
    each_named l h = (each check l).proves (none_fails l h)
