-- `replies::transitions::compile_rules` meets its contract. The invariants: the opening rules below i are put into the table, and then the
-- closing rules below j.
use mathlib.Core.Path.{◌≡◌}
use Prim.Native.Nat.{◌+◌}
use lib.ListN.{length}
use Rattle.automata.specs.ReplyBody.{opening_count}
use Rattle.automata.specs.Inner.MaskTable.{puts}
use Rattle.replies.proofs.RulesPut.{ruling}
use Rattle.replies.proofs.transitions.compile_rules.Given as goal

abbrev pub invariant-loop-i : goal.invariant-loop-i
invariant-loop-i l = (l.table ≡ puts (ruling l.body.bytes.now 0) l.i l.initial.table) × (length l.table ≡ length l.initial.table)

abbrev pub invariant-loop-j : goal.invariant-loop-j
invariant-loop-j l =
    (l.table ≡ puts (ruling l.body.bytes.now 0) (opening_count l.body.bytes.now + l.j) l.fn.table) ×
    (length l.table ≡ length l.fn.table)
