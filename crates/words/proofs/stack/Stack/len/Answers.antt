-- `words::stack::Stack::len` meets its contract.
use mathlib.Core.Path.{sym, ◌∙◌, ap}
use lib.ListN.{length}
use Rattle.words.proofs.StackLaws.{length_newest}
use Rattle.words.proofs.stack.Stack.len.Goals as goal

pub returns : goal.returns
returns g c = sym (length_newest c.self.inside.items c.self.inside.count) ∙ ap length c.self.view_is
