-- Laws of a valid target body: its offsets are within it, its entries are states, and so the automaton stays below n.
use mathlib.Core.Path.{◌≡◌, refl, subst}
use mathlib.Core.List.{List}
use Prim.Native.Nat.{ℕ, ◌+◌, ◌*◌, ◌<◌, ◌≤◌}
use native.Mathlib.Omega.{arith}
use native.Mathlib.Nat.{mul_comm, mul-le-mul_left, mul-le-mul_right, le_trans}
use native.Mathlib.Decide.{dec_lt}
use lib.Arith.{digits_lt}
use lib.ListN.{length, get_or-eq_default}
use Rattle.words.specs.Numbers.{byte_at}
use Rattle.words.specs.Tag.{codes, IsCode}
use Rattle.automata.specs.TargetBody.{most_states, target_head, states_of, open_offset, close_offset, target_of, ValidTarget}
use Rattle.automata.specs.Inner.TargetRead.{StateIs}
use Rattle.automata.specs.Target.{Closed}

pub square_most : (n : ℕ) → n ≤ most_states → n * n ≤ most_states * most_states
square_most n h = le_trans (mul-le-mul_left n h) (mul-le-mul_right most_states h)

module _ (b : List ℕ) (v : ValidTarget b) where
  pub states_are : (target_of b).states ≡ states_of b
  unfolding target_of
  states_are = refl

  pub square : states_of b * states_of b ≤ most_states * most_states
  square = square_most (states_of b) v.few_states

  -- how long it can be (SPEC 6.6)
  pub target_most : length b ≤ target_head + codes * most_states + codes * (most_states * most_states)
  target_most = let l = v.long in let n = v.few_states in let q = square in omega arith

  pub open_place : (q c : ℕ) → q < states_of b → IsCode c → open_offset q c < length b
  open_place q c hq hc = let l = v.long in omega arith

  -- the row of a closing result among the n × n
  pub close_row : (r q : ℕ) → r < states_of b → q < states_of b → states_of b * r + q < states_of b * states_of b
  close_row r q hr hq = subst (λ x. x + q < states_of b * states_of b) (mul_comm r (states_of b)) (digits_lt hr hq)

  pub close_place : (r q c : ℕ) → r < states_of b → q < states_of b → IsCode c → close_offset (states_of b) r q c < length b
  close_place r q c hr hq hc = let l = v.long in let k = close_row r q hr hq in omega arith

  -- every byte of the tables is a state, and past the end 0 is one
  pub entry_below : (i : ℕ) → target_head ≤ i → byte_at b i < states_of b
  entry_below i h =
      elim (dec_lt i (length b)) [
        | yes l ↦ v.table_states i h l
        | no n ↦ let s = v.some_state in let l : length b ≤ i = omega arith in rw (get_or-eq_default b 0 l) s
      ]

  pub entry_is : (i : ℕ) → target_head ≤ i → StateIs (target_of b) (byte_at b i) (byte_at b i)
  unfolding target_of
  entry_is i h = let l = entry_below i h in let f = v.few_states in record { is = refl; one_of = l; small = omega arith }

  pub start_is : StateIs (target_of b) (byte_at b 1) (byte_at b 1)
  unfolding target_of
  start_is = let l = v.start_state in let f = v.few_states in record { is = refl; one_of = l; small = omega arith }

  pub target_closed : Closed (target_of b)
  unfolding target_of
  target_closed =
      record {
        start_below = v.start_state;
        open_below = λ q c. entry_below (open_offset q c) (omega arith);
        close_below = λ r q c. entry_below (close_offset (states_of b) r q c) (omega arith);
      }

  pub few_target_states : (target_of b).states ≤ most_states
  unfolding target_of
  few_target_states = v.few_states

  pub state_small : (s : ℕ) → s < (target_of b).states → s < most_states
  state_small s h = let f = few_target_states in omega arith
