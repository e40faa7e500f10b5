-- A number that a form's state may have.
use Rattle.std.specs.Prelude.{ℕ, ◌<◌}
use Rattle.automata.specs.ReplyBody.{most_reply_states}

abbrev pub IsFormState : ℕ → Type 0
IsFormState p = p < most_reply_states
