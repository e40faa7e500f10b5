-- The search for the least lengths, by rising length: what is known between two rounds, and at the end.
use Rattle.std.specs.Prelude.{◌≡◌, ◌↔◌, cond, List, [], ◌∷◌, ℕ, zero, suc, ◌+◌, ◌*◌, ◌<◌, ◌≤◌, length, get_or}
use Rattle.automata.specs.Bits.{bit}
use Rattle.automata.specs.Target.{Target}
use Rattle.automata.specs.TargetBody.{most_states}
use Rattle.automata.specs.Inner.FormState.{IsFormState}
use Rattle.relaxation.specs.Inner.Pairs.{pair_count, target_part}
use Rattle.relaxation.specs.Inner.PairSet.{mask_count, Member}
use Rattle.relaxation.specs.Inner.Lengths.{length_count, length_of, capped, no_length}
use Rattle.relaxation.specs.Inner.Wraps.{Wraps}
use Rattle.relaxation.specs.Inner.Relaxation.{Whole}
use Rattle.relaxation.specs.declared.found.Found.{Found}
use Rattle.rounds.specs.Inner.Settled.{LeastLeft}
use Rattle.lengths.specs.Inner.Leads.{PairLeads}

-- Every length has a forest.
abbrev pub SoundLengths : Target → List ℕ → List ℕ → Type 0
SoundLengths A links lengths =
    (x z : ℕ) → x < pair_count → z < pair_count → length_of lengths x z < no_length →
    (target_part x < A.states) × ((n : ℕ) × (capped n ≡ length_of lengths x z) × PairLeads A links x z n)

-- Between two rounds, the next of which is for length l or more: what is settled has been joined with what is settled, and wrapped.
pub record Searched (A : Target) (links settled into fresh : List ℕ) (f : Found) (l : ℕ) : Type 0 where
  pub whole : Whole f
  pub settled_long : length settled ≡ mask_count
  pub into_long : length into ≡ mask_count
  pub fresh_long : length fresh ≡ mask_count
  pub fresh_empty : (x z : ℕ) → x < pair_count → z < pair_count → ¬ Member fresh x z
  pub sound : SoundLengths A links f.lengths
  pub low : (x z : ℕ) → x < pair_count → z < pair_count → Member f.known x z → length_of f.lengths x z ≤ capped (l + 1)
  pub settled_known : (x z : ℕ) → x < pair_count → z < pair_count → Member settled x z → Member f.known x z
  pub turned : (x z : ℕ) → x < pair_count → z < pair_count → Member settled x z ↔ Member into z x
  pub left : (x : ℕ) → x < pair_count → LeastLeft f.lengths settled f.least x
  pub from_on : (x : ℕ) → x < pair_count → l ≤ get_or f.least x 0
  pub stays : (x : ℕ) → x < pair_count → target_part x < A.states → Member settled x x × (length_of f.lengths x x ≡ 0)
  pub joined : (x y z : ℕ) → x < pair_count → y < pair_count → z < pair_count → Member settled x y → Member settled y z →
      length_of f.lengths x z ≤ capped (length_of f.lengths x y + length_of f.lengths y z)
  pub wrapped : (y b r x z c : ℕ) → y < pair_count → IsFormState b → r < A.states → x < pair_count → z < pair_count →
      Member settled y (most_states * b + r) → Wraps A links y b r x z c →
      length_of f.lengths x z ≤ capped (length_of f.lengths y (most_states * b + r) + 1)

-- how many of the first n states a mask has
unfoldable pub size : ℕ → ℕ → ℕ
size zero m = 0
size (suc n) m = cond (bit m n) (suc (size n m)) (size n m)

-- how many members the sets of a table have
unfoldable pub member_count : List ℕ → ℕ
member_count [] = 0
member_count (m ∷ t) = size most_states m + member_count t

-- a round settled something
pub record RoundDone (A : Target) (links settled settled' into fresh : List ℕ) (f : Found) (l : ℕ) : Type 0 where
  pub searched : Searched A links settled' into fresh f l
  pub more : member_count settled < member_count settled'

-- The least lengths: each has a forest, and no forest is smaller.
pub record LeastLengths (A : Target) (links lengths : List ℕ) : Type 0 where
  pub long : length lengths ≡ length_count
  pub sound : SoundLengths A links lengths
  pub least : (x z n : ℕ) → x < pair_count → z < pair_count → target_part x < A.states → PairLeads A links x z n →
      length_of lengths x z ≤ capped n
