-- `rounds::settling::least_row` meets its contract: l is the least of the rows passed.
use Prim.{Unit}
use lib.ListN.{get_or}
use Rattle.relaxation.specs.Inner.Lengths.{LeastOf}
use Rattle.rounds.proofs.settling.least_row.Given as goal

abbrev pub invariant-loop-k : goal.invariant-loop-k
invariant-loop-k l = LeastOf (λ i. Unit {0}) (λ i. get_or l.least i 0) l.k-index l.l
