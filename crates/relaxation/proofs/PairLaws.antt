-- Pairs by their two parts, and members as bits of words.
use mathlib.Core.Path.{◌≡◌}
use mathlib.Core.Bool.{true}
use mathlib.Core.List.{List}
use Prim.Native.Nat.{ℕ, ◌<◌}
use native.Mathlib.Omega.{arith}
use lib.ListN.{get_or}
use Rattle.automata.specs.Bits.{bit}
use Rattle.automata.specs.TargetBody.{most_states}
use Rattle.automata.specs.Inner.FormState.{IsFormState}
use Rattle.relaxation.specs.Inner.Pairs.{pair_count, pair_of, form_part, target_part}
use Rattle.relaxation.specs.Inner.PairSet.{mask_index, Member}

pub form_of_lem : (p q : ℕ) → q < most_states → form_part (pair_of p q) ≡ p
form_of_lem p q h = omega arith

pub target_of_lem : (p q : ℕ) → q < most_states → target_part (pair_of p q) ≡ q
target_of_lem p q h = omega arith

pub pair_is : (p q x : ℕ) → form_part x ≡ p → target_part x ≡ q → x ≡ pair_of p q
pair_is p q x e d = omega arith

pub pair_below : (p q : ℕ) → IsFormState p → q < most_states → pair_of p q < pair_count
pair_below p q hp hq = omega arith

-- a member is a bit of the word for its form state
pub word_member : (t : List ℕ) (x r s : ℕ) → s < most_states → bit (get_or t (mask_index x r) 0) s ≡ true → Member t x (pair_of r s)
word_member t x r s h m = rw (form_of_lem r s h, target_of_lem r s h) m

pub member_word : (t : List ℕ) (x r s : ℕ) → s < most_states → Member t x (pair_of r s) → bit (get_or t (mask_index x r) 0) s ≡ true
member_word t x r s h m = rw (form_of_lem r s h, target_of_lem r s h) at m
