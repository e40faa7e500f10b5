-- `words::stack::Stack::push` meets its contract: there is room for one more.
use mathlib.Core.Path.{◌∙◌, ap}
use mathlib.Core.List.{◌∷◌}
use Prim.Native.Nat.{◌<◌}
use native.Mathlib.Omega.{arith}
use lib.ListN.{length}
use Rattle.words.proofs.StackLaws.{length_newest, newest_pushed}
use Rattle.words.proofs.stack.Stack.push.Goals as goal

pub bounds-self-inside-self-inside : goal.bounds-self-inside-self-inside
bounds-self-inside-self-inside g c = omega (arith, length_newest c.self.inside.items c.self.inside.count, ap length c.self.view_is)

pub invariant_of-self : goal.invariant_of-self
invariant_of-self g c = omega (arith, length_newest c.self.inside.items c.self.inside.count, ap length c.self.view_is)

pub returns : goal.returns
returns g c =
    let s = c.self.inside in
    let room : s.count < length s.items = omega (arith, length_newest s.items s.count, ap length c.self.view_is) in
    newest_pushed s.items s.count c.args.b room ∙ ap (λ l. c.args.b ∷ l) c.self.view_is
