-- Numbered refusals in an order: the first whose condition holds decides (SPEC 7.3).
use Rattle.std.specs.Prelude.{◌≡◌, ◌⊎◌, List, [], ◌∷◌, ℕ}
use Rattle.std.proofs.Math.Logic.{ite}
use Rattle.std.proofs.Math.Decide.{ℕ_discrete}

-- a numbered refusal and the condition under which it is given, which is decidable
pub record RefusalRule : Type 1 where
  pub number : ℕ
  pub Broken : Type 0
  pub broken? : Dec Broken

abbrev pub rule : ℕ → (A : Type 0) → Dec A → RefusalRule
rule n A d = record { number = n; Broken = A; broken? = d }

-- the number of the first whose condition holds, and 0 where none does
unfoldable pub first_of : List RefusalRule → ℕ
first_of [] = 0
first_of (r ∷ rs) = ite r.broken? r.number (first_of rs)

-- a rule with this number is broken, and none before it is
abbrev pub Given : List RefusalRule → ℕ → Type 0
Given [] n = ⊥
Given (r ∷ rs) n = (r.Broken × (r.number ≡ n)) ⊎ (¬ r.Broken × Given rs n)

-- The shape of an answer that is a number: the refusal where there is one, and where there is none what is promised.
pub record RefusalOr (refusal : ℕ) (Promised : ℕ → Type 0) (r : ℕ) : Type 0 where
  pub refused : ¬ (refusal ≡ 0) → r ≡ refusal
  pub given : refusal ≡ 0 → Promised r

-- what there is where nothing is refused, and what stands in its place where something is
abbrev pub unless_refused : {A : Type 0} → ℕ → A → A → A
unless_refused refusal a b = ite (ℕ_discrete refusal 0) a b
