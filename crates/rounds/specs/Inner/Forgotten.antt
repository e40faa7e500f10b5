-- Rows are put aside at the end of a round.
use Rattle.std.specs.Prelude.{◌≡◌, List, ℕ, ◌<◌, length}
use Rattle.relaxation.specs.Inner.Pairs.{pair_count}
use Rattle.relaxation.specs.Inner.PairSet.{Member, Gains}

-- What was new in these rows is among what leads into its end, and nothing is new there.
pub record RowsForgotten (Row : ℕ → Type 0) (fresh into fresh' into' : List ℕ) : Type 0 where
  pub turned : Gains into into' (λ z x. Row x × Member fresh x z)
  pub long : length fresh' ≡ length fresh
  pub gone : (x z : ℕ) → x < pair_count → z < pair_count → Row x → ¬ Member fresh' x z
  pub only : (x z : ℕ) → x < pair_count → z < pair_count → Member fresh' x z → Member fresh x z
  pub others : (x z : ℕ) → x < pair_count → z < pair_count → ¬ Row x → Member fresh x z → Member fresh' x z
