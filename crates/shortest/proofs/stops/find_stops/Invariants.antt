-- `shortest::stops::find_stops` meets its contract: the stops of the form states passed are member.
use Rattle.relaxation.specs.Inner.PairSet.{Gains}
use Rattle.shortest.proofs.StopLaws.{StoppedAt}
use Rattle.shortest.proofs.stops.find_stops.Given as goal

abbrev pub invariant-loop-p : goal.invariant-loop-p
invariant-loop-p l =
    Gains l.initial.stops.masks l.stops.masks (StoppedAt l.lengths.table.now l.goals.masks l.q l.p)
