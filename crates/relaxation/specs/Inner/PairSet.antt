-- A set of pairs for each index x, as a table of bits: for each x and form state a mask of target states.
use Rattle.std.specs.Prelude.{◌⊎◌, ◌≡◌, Option, None, Some, List, ℕ, ◌+◌, ◌*◌, ◌<◌, ◌≤◌, length}
use Rattle.automata.specs.ReplyBody.{most_reply_states}
use Rattle.automata.specs.Inner.MaskTable.{Has}
use Rattle.relaxation.specs.Inner.Pairs.{pair_count, form_part, target_part}

-- how many masks there are where each pair has its set
abbrev pub mask_count : ℕ
mask_count = pair_count * most_reply_states

abbrev pub mask_index : ℕ → ℕ → ℕ
mask_index x r = most_reply_states * x + r

-- z is a member of the set of x
abbrev pub Member : List ℕ → ℕ → ℕ → Type 0
Member t x z = Has t (mask_index x (form_part z)) (target_part z)

-- r is the first member of the set of x that is not below `from`, or there is none
pub record NextMember (t : List ℕ) (x from r : ℕ) : Type 0 where
  pub from_on : from ≤ r
  pub within : r ≤ pair_count
  pub none : (z : ℕ) → from ≤ z → z < r → ¬ Member t x z
  pub there : r < pair_count → Member t x r

-- Where the members are given in rising order: those from `from` on are left, and the first of them is given, or there is none. The ones
-- from from' on are left then.
abbrev pub NextGiven : List ℕ → ℕ → ℕ → Option ℕ → ℕ → Type 0
NextGiven t x from None from' = NextMember t x from pair_count
NextGiven t x from (Some z) from' = NextMember t x from z × (z < pair_count) × (from' ≡ z + 1)

-- the sets have grown by exactly the members that are new
pub record Gains (t t' : List ℕ) (New : ℕ → ℕ → Type 0) : Type 0 where
  pub long : length t' ≡ length t
  pub kept : (x z : ℕ) → Member t x z → Member t' x z
  pub either : (x z : ℕ) → x < pair_count → z < pair_count → Member t' x z → Member t x z ⊎ New x z
  pub has_it : (x z : ℕ) → x < pair_count → z < pair_count → New x z → Member t' x z
