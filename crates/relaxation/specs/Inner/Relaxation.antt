-- The tables of the search, and what becomes of them when lengths are relaxed to candidates.
use Rattle.std.specs.Prelude.{◌≡◌, ◌⊎◌, List, ℕ, ◌+◌, ◌<◌, ◌≤◌, length, get_or, true}
use Rattle.automata.specs.Bits.{bit}
use Rattle.automata.specs.Target.{Target}
use Rattle.relaxation.specs.Inner.Pairs.{pair_count, form_part, target_part}
use Rattle.relaxation.specs.Inner.PairSet.{mask_count, Member}
use Rattle.relaxation.specs.Inner.Lengths.{length_count, length_of, length_cap, capped}
use Rattle.relaxation.specs.Inner.Wraps.{LeadsBeside, Wraps}
pub use Rattle.relaxation.specs.declared.found.Found.{Found}

abbrev pub found : List ℕ → List ℕ → List ℕ → Found
found l w k = record { lengths = l; least = w; known = k }

-- each table has its size
pub record Whole (f : Found) : Type 0 where
  pub lengths : length f.lengths ≡ length_count
  pub least : length f.least ≡ pair_count
  pub known : length f.known ≡ mask_count

-- what can fall no more is at most `next`, and only a pair itself is reached with 0
pub record Firm (next : ℕ) (f : Found) : Type 0 where
  pub whole : Whole f
  pub some : 1 ≤ next
  pub few : next ≤ length_cap
  pub low : (x z : ℕ) → x < pair_count → z < pair_count → Member f.known x z → length_of f.lengths x z ≤ next
  pub zero : (x z : ℕ) → x < pair_count → z < pair_count → length_of f.lengths x z ≡ 0 → x ≡ z

-- a length fell, to a candidate that is at least `next`
pub record Fell (next : ℕ) (Candidate : ℕ → ℕ → ℕ → Type 0) (o n : Found) (x z : ℕ) : Type 0 where
  pub less : length_of n.lengths x z < length_of o.lengths x z
  pub from : next ≤ length_of n.lengths x z
  pub candidate : Candidate x z (length_of n.lengths x z)

-- the least length of row x is one that fell
abbrev pub FellToLeast : Found → Found → ℕ → Type 0
FellToLeast o n x =
    (z : ℕ) × (z < pair_count) × (length_of n.lengths x z < length_of o.lengths x z) ×
    (length_of n.lengths x z ≡ get_or n.least x 0)

-- Lengths were relaxed: `Candidate x z k` says that k was a candidate for x and z. A length fell where a candidate was less, and nothing
-- else changed; after it no length is more than its candidates, unless it can fall no more.
pub record Relaxed (next : ℕ) (Candidate : ℕ → ℕ → ℕ → Type 0) (o n : Found) : Type 0 where
  pub whole : Whole o → Whole n
  pub falls : (x z : ℕ) → x < pair_count → z < pair_count →
      (length_of n.lengths x z ≡ length_of o.lengths x z) ⊎ Fell next Candidate o n x z
  pub met : (x z k : ℕ) → x < pair_count → z < pair_count → Candidate x z k → (length_of n.lengths x z ≤ k) ⊎ Member n.known x z
  pub least_falls : (x : ℕ) → x < pair_count → get_or n.least x 0 ≤ get_or o.least x 0
  pub least_below : (x z : ℕ) → x < pair_count → z < pair_count → length_of n.lengths x z < length_of o.lengths x z →
      get_or n.least x 0 ≤ length_of n.lengths x z
  pub least_from : (x : ℕ) → x < pair_count → (get_or n.least x 0 ≡ get_or o.least x 0) ⊎ FellToLeast o n x
  pub kept : (x z : ℕ) → Member o.known x z → Member n.known x z
  pub member : (x z : ℕ) → x < pair_count → z < pair_count → Member n.known x z →
      Member o.known x z ⊎ (length_of n.lengths x z ≤ next)

-- The candidates of the functions. One length, for one pair and another:
abbrev pub One : ℕ → ℕ → ℕ → ℕ → ℕ → ℕ → Type 0
One x z k x' z' k' = (x' ≡ x) × (z' ≡ z) × (k' ≡ k)

-- from x, over y, to the pairs of form state r that a mask has, with the lengths of l
abbrev pub Sums : List ℕ → ℕ → ℕ → ℕ → ℕ → ℕ → ℕ → ℕ → Type 0
Sums l x y r mask x' z' k' =
    (x' ≡ x) × (form_part z' ≡ r) × (bit mask (target_part z') ≡ true) × (k' ≡ capped (length_of l x y + length_of l y z'))

-- from x, over y, to all members of the set of y
abbrev pub Joins : List ℕ → List ℕ → ℕ → ℕ → ℕ → ℕ → ℕ → Type 0
Joins l members x y x' z' k' = (x' ≡ x) × Member members y z' × (k' ≡ capped (length_of l x y + length_of l y z'))

-- from x to the pairs of a form state r that a mask has, and of those form states that a link has
abbrev pub Ends : ℕ → ℕ → ℕ → ℕ → ℕ → ℕ → ℕ → Type 0
Ends x r mask k x' z' k' = (x' ≡ x) × (form_part z' ≡ r) × (bit mask (target_part z') ≡ true) × (k' ≡ k)

abbrev pub LinkedEnds : ℕ → ℕ → ℕ → ℕ → ℕ → ℕ → ℕ → Type 0
LinkedEnds x link mask k x' z' k' = (x' ≡ x) × (bit link (form_part z') ≡ true) × (bit mask (target_part z') ≡ true) × (k' ≡ k)

-- an element whose inside leads from pair y to form state b and the target states of a mask
pub record Around (A : Target) (links : List ℕ) (y b mask k x' z' k' c : ℕ) : Type 0 where
  pub inside : ℕ
  pub has_it : bit mask inside ≡ true
  pub inside_below : inside < A.states
  pub wraps : Wraps A links y b inside x' z' c
  pub is : k' ≡ k

-- the same for one code c and one target state q, where the element begins: its inside leads from form state a to b, and a mask has the
-- target states after it
abbrev pub AroundState : List ℕ → ℕ → ℕ → ℕ → ℕ → ℕ → ℕ → ℕ → ℕ → ℕ → Type 0
AroundState links c q a b mask k x' z' k' =
    (target_part x' ≡ q) × LeadsBeside links c (form_part x') a b (form_part z') × (bit mask (target_part z') ≡ true) × (k' ≡ k)

-- and for every code
abbrev pub AroundAny : Target → List ℕ → ℕ → ℕ → ℕ → ℕ → ℕ → ℕ → ℕ → Type 0
AroundAny A links y b mask k x' z' k' = (c : ℕ) × Around A links y b mask k x' z' k' c
