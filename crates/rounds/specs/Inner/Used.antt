-- What is new is used: as an inside, and joined with what is settled before and after it.
use Rattle.std.specs.Prelude.{◌≡◌, ◌⊎◌, List, ℕ, ◌+◌, ◌<◌, length, get_or}
use Rattle.automata.specs.Target.{Target}
use Rattle.automata.specs.Inner.FormState.{IsFormState}
use Rattle.relaxation.specs.Inner.Pairs.{pair_count}
use Rattle.relaxation.specs.Inner.PairSet.{mask_count, mask_index, Member}
use Rattle.relaxation.specs.Inner.Lengths.{length_of, capped}
use Rattle.relaxation.specs.Inner.Relaxation.{Firm, AroundAny}
use Rattle.relaxation.specs.declared.found.Found.{Found}

-- The candidates of a round for row x, with k elements for an element around something new. An element around what is new:
abbrev pub UseInside : Target → List ℕ → List ℕ → ℕ → ℕ → ℕ → ℕ → ℕ → Type 0
UseInside A links fresh k x x' z' k' = (b : ℕ) × IsFormState b × AroundAny A links x b (get_or fresh (mask_index x b) 0) k x' z' k'

-- what is new, and what is settled after it
abbrev pub UseAhead : List ℕ → List ℕ → List ℕ → ℕ → ℕ → ℕ → ℕ → Type 0
UseAhead lengths settled fresh x x' z' k' =
    (x' ≡ x) × ((y : ℕ) × (y < pair_count) × Member fresh x y × Member settled y z' ×
    (k' ≡ capped (length_of lengths x y + length_of lengths y z')))

-- what was settled before it, and what is new
abbrev pub UseBehind : List ℕ → List ℕ → List ℕ → ℕ → ℕ → ℕ → ℕ → Type 0
UseBehind lengths into fresh x x' z' k' =
    Member into x x' × Member fresh x z' × (k' ≡ capped (length_of lengths x' x + length_of lengths x z'))

abbrev pub UseRow : Target → List ℕ → List ℕ → List ℕ → List ℕ → List ℕ → ℕ → ℕ → ℕ → ℕ → ℕ → Type 0
UseRow A links lengths settled fresh into k x x' z' k' =
    UseInside A links fresh k x x' z' k' ⊎ (UseAhead lengths settled fresh x x' z' k' ⊎ UseBehind lengths into fresh x x' z' k')

-- the same for all rows below n
abbrev pub UseRows : Target → List ℕ → List ℕ → List ℕ → List ℕ → List ℕ → ℕ → ℕ → ℕ → ℕ → ℕ → Type 0
UseRows A links lengths settled fresh into k n x' z' k' = (x : ℕ) × (x < n) × UseRow A links lengths settled fresh into k x x' z' k'

-- All that the sets of a table have is known; and the same for sets of what leads to a pair.
pub record AllKnown (members : List ℕ) (f : Found) : Type 0 where
  pub long : length members ≡ mask_count
  pub known : (x z : ℕ) → x < pair_count → z < pair_count → Member members x z → Member f.known x z

pub record AllInto (into : List ℕ) (f : Found) : Type 0 where
  pub long : length into ≡ mask_count
  pub known : (x w : ℕ) → x < pair_count → w < pair_count → Member into x w → Member f.known w x

-- what is new is known, and one element more is `next`
pub record Usable (next : ℕ) (fresh : List ℕ) (f : Found) : Type 0 where
  pub firm : Firm next f
  pub all : AllKnown fresh f
  pub last : (x z : ℕ) → x < pair_count → z < pair_count → Member fresh x z → capped (length_of f.lengths x z + 1) ≡ next

-- the rows that have something new are in the set of 0
abbrev pub RowsNoted : List ℕ → List ℕ → Type 0
RowsNoted fresh rows = (x z : ℕ) → x < pair_count → z < pair_count → Member fresh x z → Member rows 0 x
