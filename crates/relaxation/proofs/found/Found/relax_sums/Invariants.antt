-- `relaxation::found::Found::relax_sums` meets its contract: lengths to the bits passed are relaxed to the sums, or the bits were known.
use Prim.Native.Nat.{ℕ, ◌≤◌}
use Rattle.automata.specs.TargetBody.{most_states}
use Rattle.automata.specs.Inner.StatesIn.{StatesFrom}
use Rattle.relaxation.specs.Inner.Relaxation.{Relaxed}
use Rattle.relaxation.proofs.BitsRelaxed.{BitsRelaxed, sum_over}
use Rattle.relaxation.proofs.found.Found.relax_sums.Given as goal

abbrev pub invariant-loop-s : goal.invariant-loop-s
invariant-loop-s l =
    (from : ℕ) × StatesFrom l.left from l.s-iterator × (from ≤ most_states) ×
    Relaxed l.next (BitsRelaxed (sum_over l.initial.self.lengths l.x l.y) l.x l.r l.mask from) l.initial.self l.self
