-- A pair is a state of the form and one of the target, side by side, as one number.
use Rattle.std.specs.Prelude.{ℕ, ◌+◌, ◌*◌, ◌/◌, ◌%◌}
use Rattle.automata.specs.TargetBody.{most_states}
use Rattle.automata.specs.ReplyBody.{most_reply_states}

abbrev pub pair_count : ℕ
pair_count = most_reply_states * most_states

abbrev pub pair_of : ℕ → ℕ → ℕ
pair_of p q = most_states * p + q

-- its two parts
abbrev pub form_part : ℕ → ℕ
form_part x = x / most_states

abbrev pub target_part : ℕ → ℕ
target_part x = x % most_states
