-- `automata::target::TargetBody::open_to` meets its contract.
use native.Mathlib.Omega.{arith}
use Rattle.automata.specs.TargetBody.{target_of}
use Rattle.automata.proofs.TargetTables.{open_place, entry_is}
use Rattle.automata.proofs.target.TargetBody.open_to.Goals as goal

pub overflow_mul-q : goal.overflow_mul-q
unfolding target_of
overflow_mul-q c = omega arith

pub overflow_add-q : goal.overflow_add-q
unfolding target_of
overflow_add-q c = omega arith

pub overflow_add-q-2 : goal.overflow_add-q-2
unfolding target_of
overflow_add-q-2 c = omega arith

pub bounds-self-q : goal.bounds-self-q
unfolding target_of
bounds-self-q c =
    let (q, code) = c.requires in
    open_place c.args.self.bytes.now c.args.self.valid c.args.q c.args.c q code

pub returns : goal.returns
unfolding target_of
returns c = rw c.from.ensures (entry_is c.args.self.bytes.now c.args.self.valid _ (omega arith))
