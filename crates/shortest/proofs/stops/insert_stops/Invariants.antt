-- `shortest::stops::insert_stops` meets its contract: the stops among the pairs passed are member.
use Rattle.relaxation.specs.Inner.PairSet.{Gains}
use Rattle.shortest.proofs.StopLaws.{Stopped}
use Rattle.shortest.proofs.stops.insert_stops.Given as goal

abbrev pub invariant-loop-y : goal.invariant-loop-y
invariant-loop-y l =
    Gains l.initial.stops.masks l.stops.masks (Stopped l.lengths.table.now l.goals.masks l.p l.x l.y)
