-- `words::stack::Stack::pop` meets its contract.
use mathlib.Core.Path.{sym, ◌∙◌}
use Prim.Native.Nat.{◌-◌}
use native.Mathlib.Omega.{arith}
use Rattle.words.proofs.StackLaws.{newest_popped}
use Rattle.words.proofs.stack.Stack.pop.Goals as goal

pub returns : goal.returns
returns g c =
    let s = c.self.inside in
    sym c.self.view_is ∙ newest_popped s.items s.count (s.count - 1) (omega (arith, c.if-self-eq0.false))
