-- A target's body in a job file: its bytes (SPEC 6.6, 6.9), and when they are valid (SPEC 7.13).
use Rattle.std.specs.Prelude.{◌≡◌, false, List, ℕ, ◌+◌, ◌*◌, ◌<◌, ◌≤◌, length}
use Rattle.words.specs.Numbers.{byte_at, four}
use Rattle.words.specs.Tag.{codes}
use Rattle.automata.specs.Bits.{bit}
use Rattle.automata.specs.Target.{Target}

abbrev pub most_states : ℕ
most_states = 32

-- the bytes before the tables
abbrev pub target_head : ℕ
target_head = 6

-- n
abbrev pub states_of : List ℕ → ℕ
states_of b = byte_at b 0

-- where the result for an opening tag stands, and the one for a closing tag
abbrev pub open_offset : ℕ → ℕ → ℕ
open_offset q c = target_head + (codes * q + c)

abbrev pub close_offset : ℕ → ℕ → ℕ → ℕ → ℕ
close_offset n r q c = target_head + codes * n + (codes * (n * r + q) + c)

-- the automaton that a target body gives
unfoldable pub target_of : List ℕ → Target
target_of b =
    record {
      states = states_of b;
      start = byte_at b 1;
      accepting = λ q. bit (four b 2) q;
      open_to = λ q c. byte_at b (open_offset q c);
      close_to = λ r q c. byte_at b (close_offset (states_of b) r q c);
    }

-- Refusal 13 is given to a body that is not this (SPEC 7.13).
pub record ValidTarget (b : List ℕ) : Type 0 where
  pub some_state : 1 ≤ states_of b
  pub few_states : states_of b ≤ most_states
  pub long : length b ≡ target_head + codes * states_of b + codes * (states_of b * states_of b)
  pub start_state : byte_at b 1 < states_of b
  pub table_states : (i : ℕ) → target_head ≤ i → i < length b → byte_at b i < states_of b
  pub mask_bits : (i : ℕ) → states_of b ≤ i → bit (four b 2) i ≡ false
