-- `automata::bits::States::next` meets its contract: the lowest bit is the next state, and is left no more.
use mathlib.Core.Path.{refl}
use Prim.Native.Nat.{◌<◌}
use native.Mathlib.Omega.{arith}
use Rattle.automata.proofs.BitLaws.{first_there, first_gone, others_left, bit_zero}
use Rattle.automata.proofs.bits.StatesIterator.next.Goals as goal

pub returns-then-self-eq0-clause-steps : goal.returns-then-self-eq0-clause-steps
returns-then-self-eq0-clause-steps c = (refl, rw c.if-self-eq0.true (λ i. bit_zero i))

pub returns-clause-steps : goal.returns-clause-steps
returns-clause-steps c =
    let m = c.args.self.now.rest in
    let some : 0 < m = omega arith in
    let (l, n) = first_there m (omega arith) some in
    (n, l, record { below = first_gone m (omega arith) some; onward = others_left m (omega arith) some })
