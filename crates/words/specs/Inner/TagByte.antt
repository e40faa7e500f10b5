-- What the code tells of a tag's byte.
use Rattle.std.specs.Prelude.{◌≡◌, Bool, true, false, ℕ, ◌-◌, ◌<◌, ◌≤◌}
use Rattle.words.specs.Tag.{codes}

-- whether it is an opening tag
pub record OpensAt (b : ℕ) (r : Bool) : Type 0 where
  pub opening : r ≡ true → b < codes
  pub closing : r ≡ false → codes ≤ b

-- the code of its tag
pub record CodeIs (b r : ℕ) : Type 0 where
  pub opening : b < codes → r ≡ b
  pub closing : codes ≤ b → r ≡ b - codes
  pub small : r < codes
