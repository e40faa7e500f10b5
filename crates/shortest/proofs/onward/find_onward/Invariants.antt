-- `shortest::onward::find_onward` meets its contract: the goals by way of the pairs of form states passed are member.
use Rattle.relaxation.specs.Inner.PairSet.{Gains}
use Rattle.shortest.proofs.OnwardLaws.{OnwardBelow}
use Rattle.shortest.proofs.onward.find_onward.Given as goal

abbrev pub invariant-loop-i : goal.invariant-loop-i
invariant-loop-i l =
    Gains l.initial.next.masks l.next.masks
    (OnwardBelow l.lengths.table.now l.goals.masks l.q l.relation l.t l.e l.i)
