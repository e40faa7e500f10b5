-- That an answer is defined (SPEC 11.11): of all that it could be, exactly one is right.
use Rattle.std.specs.Prelude.{◌≡◌}

-- one value has the property, and every value that has it is this one
pub record Exactly {A : Type 0} (P : A → Type 0) : Type 0 where
  pub value : A
  pub right : P value
  pub only : (a : A) → P a → a ≡ value
