-- `relaxation::around::image` meets its contract: the mask found is the image of the states passed.
use mathlib.Core.Path.{◌≡◌}
use Prim.Native.Nat.{ℕ, min, ◌≤◌}
use Rattle.automata.specs.TargetBody.{most_states, target_of}
use Rattle.automata.specs.Inner.StatesIn.{StatesFrom}
use Rattle.relaxation.specs.Inner.Wraps.{image_of, closing_step}
use Rattle.relaxation.proofs.around.image.Given as goal

-- the states passed may be more than the target has
abbrev pub invariant-loop-r : goal.invariant-loop-r
invariant-loop-r l =
    (from : ℕ) × StatesFrom l.mask from l.r-iterator × (from ≤ most_states) ×
    (l.found ≡ image_of (closing_step (target_of l.target.bytes.now) l.q l.c) l.mask (min from l.n))
