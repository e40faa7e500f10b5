use native.Mathlib.Omega.{arith}
use Rattle.effects.proofs.SetLaws.{sets_all}
use Rattle.effects.proofs.numbers.write_sets.Goals as goal

pub returns : goal.returns
returns c =
    let inv = c.loop-i.invariant in
    sets_all _ _ inv.0 (λ i h. inv.1 i (omega arith))
