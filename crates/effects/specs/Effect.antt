-- The "effect" of a reply form at a target state (SPEC 2.11), and how short a reply can be that reaches a state (SPEC 2.12).
use Rattle.std.specs.Prelude.{◌≡◌, [], ℕ, ◌<◌, ◌≤◌, length}
use Rattle.words.specs.Tag.{Word}
use Rattle.automata.specs.Target.{Target, at, run}
use Rattle.automata.specs.Reply.{Form, Lawful}

-- s is in the effect of a form at q: some lawful reply, of any length, takes the target from q to s
pub record Effect (A : Target) (F : Form) (q s : ℕ) : Type 0 where
  pub reply : Word
  pub lawful : Lawful F reply
  pub reaches : run A reply (at q []) ≡ at s []

-- some lawful reply of n tags takes the target from q to s, and none that has fewer does
pub record Least (A : Target) (F : Form) (q s n : ℕ) : Type 0 where
  pub one : Effect A F q s
  pub tags : length one.reply ≡ n
  pub fewest : (e : Effect A F q s) → n ≤ length e.reply

-- the least number is given exactly up to this
abbrev pub most_counted : ℕ
most_counted = 4096

-- lawful replies take the target from q to s, and each has more tags than that
pub record Long (A : Target) (F : Form) (q s : ℕ) : Type 0 where
  pub one : Effect A F q s
  pub more : (e : Effect A F q s) → most_counted < length e.reply
