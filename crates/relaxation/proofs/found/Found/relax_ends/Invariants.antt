-- `relaxation::found::Found::relax_ends` meets its contract: lengths to the bits passed are relaxed, or were known.
use Prim.Native.Nat.{ℕ, ◌≤◌}
use Rattle.automata.specs.TargetBody.{most_states}
use Rattle.automata.specs.Inner.StatesIn.{StatesFrom}
use Rattle.relaxation.specs.Inner.Relaxation.{Relaxed}
use Rattle.relaxation.proofs.BitsRelaxed.{BitsRelaxed}
use Rattle.relaxation.proofs.found.Found.relax_ends.Given as goal

abbrev pub invariant-loop-s : goal.invariant-loop-s
invariant-loop-s l =
    (from : ℕ) × StatesFrom l.left from l.s-iterator × (from ≤ most_states) ×
    Relaxed l.next (BitsRelaxed (λ z. l.next) l.x l.r l.mask from) l.initial.self l.self
