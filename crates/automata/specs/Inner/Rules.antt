-- The rules of a body by their number. It is how the code reads a reply form's body.
use Rattle.std.specs.Prelude.{List, ℕ, ◌+◌, ◌<◌, ◌≤◌}
use Rattle.automata.specs.declared.reply.FormRule.{FormRule}
use Rattle.automata.specs.ReplyBody.{opening_count, rule_offset, opening_rule_at, closing_rule_at, ValidRule}

-- opening rule i, and closing rule j
abbrev pub opening_rule : List ℕ → ℕ → FormRule
opening_rule b i = opening_rule_at b (rule_offset i)

abbrev pub closing_rule : List ℕ → ℕ → FormRule
closing_rule b j = closing_rule_at b (rule_offset (opening_count b + j))

-- the first k rules are valid: n opening rules, and closing rules after them
abbrev pub RulesValid : List ℕ → ℕ → ℕ → ℕ → Type 0
RulesValid b m n k =
    (i : ℕ) → i < k → (i < n → ValidRule m (opening_rule_at b (rule_offset i))) × (n ≤ i → ValidRule m (closing_rule_at b (rule_offset i)))
