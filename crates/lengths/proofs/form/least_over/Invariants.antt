-- `lengths::form::least_over` meets its contract: k is the least length over the states of the mask that were passed.
use Rattle.lengths.specs.Inner.FormLengths.{LeastOver}
use Rattle.lengths.proofs.form.least_over.Given as goal

abbrev pub invariant-loop-r : goal.invariant-loop-r
invariant-loop-r l = LeastOver l.lengths l.x l.last l.s l.r l.k
