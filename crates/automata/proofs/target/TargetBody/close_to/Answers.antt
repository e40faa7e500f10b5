-- `automata::target::TargetBody::close_to` meets its contract.
use mathlib.Core.Path.{◌≡◌}
use mathlib.Core.List.{List}
use Prim.Native.Nat.{ℕ, ◌+◌, ◌*◌, ◌<◌}
use native.Mathlib.Nat.{lt_of_lt_of_le}
use native.Mathlib.Omega.{arith}
use Rattle.automata.specs.TargetBody.{most_states, states_of, target_of, ValidTarget}
use Rattle.automata.proofs.TargetTables.{square, close_row, close_place, entry_is}
use Rattle.automata.proofs.target.TargetBody.close_to.Goals as goal

-- the row of the result is one of n × n, and n is at most 32
row : {b : List ℕ} {n r q : ℕ} → ValidTarget b → n ≡ states_of b → r < (target_of b).states → q < (target_of b).states →
    n * r + q < most_states * most_states
unfolding target_of
row {b} {n} {r} {q} valid e hr hq = rw e (lt_of_lt_of_le (close_row b valid r q hr hq) (square b valid))

pub overflow_mul-n-2 : goal.overflow_mul-n-2
overflow_mul-n-2 c = let (r, q, code) = c.requires in omega (arith, row c.args.self.valid c.from-n.ensures r q)

pub overflow_add-n-2 : goal.overflow_add-n-2
overflow_add-n-2 c = let (r, q, code) = c.requires in omega (arith, row c.args.self.valid c.from-n.ensures r q)

pub overflow_mul-n-3 : goal.overflow_mul-n-3
overflow_mul-n-3 c = let (r, q, code) = c.requires in omega (arith, row c.args.self.valid c.from-n.ensures r q)

pub overflow_add-n-3 : goal.overflow_add-n-3
overflow_add-n-3 c = let (r, q, code) = c.requires in omega (arith, row c.args.self.valid c.from-n.ensures r q)

pub overflow_add-n-4 : goal.overflow_add-n-4
overflow_add-n-4 c = let (r, q, code) = c.requires in omega (arith, row c.args.self.valid c.from-n.ensures r q)

pub bounds-self-n : goal.bounds-self-n
unfolding target_of
bounds-self-n c =
    let (r, q, code) = c.requires in
    let a = c.args in
    rw c.from-n.ensures (close_place a.self.bytes.now a.self.valid a.r a.q a.c r q code)

pub returns : goal.returns
unfolding target_of
returns c = rw (c.from.ensures, c.from-n.ensures) (entry_is c.args.self.bytes.now c.args.self.valid _ (omega arith))
