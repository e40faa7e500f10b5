-- A reply form's body in a job file: its bytes (SPEC 6.7 to 6.9), and when they are valid (SPEC 7.14).
use Rattle.std.specs.Prelude.{◌≡◌, false, List, ℕ, ◌+◌, ◌*◌, ◌<◌, ◌≤◌, length}
use Rattle.words.specs.Numbers.{byte_at, two}
use Rattle.words.specs.Lists.{tabulated}
use Rattle.words.specs.Tag.{IsCode}
use Rattle.automata.specs.Bits.{bit}
use Rattle.automata.specs.declared.reply.FormRule.{FormRule}
use Rattle.automata.specs.Reply.{Form}

abbrev pub most_reply_states : ℕ
most_reply_states = 8

abbrev pub most_rules : ℕ
most_rules = 512

-- the bytes before the rules, and of a rule
abbrev pub reply_head : ℕ
reply_head = 7

abbrev pub rule_bytes : ℕ
rule_bytes = 4

-- m, and the two counts
abbrev pub reply_states : List ℕ → ℕ
reply_states b = byte_at b 0

abbrev pub opening_count : List ℕ → ℕ
opening_count b = two b 3

abbrev pub closing_count : List ℕ → ℕ
closing_count b = two b 5

-- where a rule's bytes begin: the closing rules follow the opening ones
abbrev pub rule_offset : ℕ → ℕ
rule_offset i = reply_head + rule_bytes * i

-- the four bytes from p on, read as an opening rule and as a closing rule (SPEC 6.8)
abbrev pub opening_rule_at : List ℕ → ℕ → FormRule
opening_rule_at b p = record { state = byte_at b p; code = byte_at b (p + 1); next = byte_at b (p + 2); kept = byte_at b (p + 3) }

abbrev pub closing_rule_at : List ℕ → ℕ → FormRule
closing_rule_at b p = record { state = byte_at b p; kept = byte_at b (p + 1); code = byte_at b (p + 2); next = byte_at b (p + 3) }

-- the automaton that a reply body gives
unfoldable pub form_of : List ℕ → Form
form_of b =
    record {
      states = reply_states b;
      start = byte_at b 1;
      accepting = λ p. bit (byte_at b 2) p;
      openings = tabulated (λ i. opening_rule_at b (rule_offset i)) 0 (opening_count b);
      closings = tabulated (λ j. closing_rule_at b (rule_offset (opening_count b + j))) 0 (closing_count b);
    }

-- a rule of a form with m states: it names states of the form, and a code
pub record ValidRule (m : ℕ) (x : FormRule) : Type 0 where
  pub state : x.state < m
  pub code : IsCode x.code
  pub next : x.next < m
  pub kept : x.kept < m

-- Refusal 14 is given to a body that is not this (SPEC 7.14).
pub record ValidReply (b : List ℕ) : Type 0 where
  pub some_state : 1 ≤ reply_states b
  pub few_states : reply_states b ≤ most_reply_states
  pub few_openings : opening_count b ≤ most_rules
  pub few_closings : closing_count b ≤ most_rules
  pub long : length b ≡ reply_head + rule_bytes * (opening_count b + closing_count b)
  pub start_state : byte_at b 1 < reply_states b
  pub opening_rules : (i : ℕ) → i < opening_count b → ValidRule (reply_states b) (opening_rule_at b (rule_offset i))
  pub closing_rules : (j : ℕ) → j < closing_count b → ValidRule (reply_states b) (closing_rule_at b (rule_offset (opening_count b + j)))
  pub mask_bits : (i : ℕ) → reply_states b ≤ i → bit (byte_at b 2) i ≡ false
