use Rattle.effects.proofs.WrittenLaws.{written_more}
use native.Mathlib.Omega.{arith}
use Rattle.effects.proofs.numbers.write_numbers.Goals as goal

pub loop-i-preserved : goal.loop-i-preserved
loop-i-preserved c =
    let l = c.loop-i in
    written_more _ _ _ l.i l.numbers _ _ (omega arith) l.invariant c.least_over.ensures c.number_of.ensures
