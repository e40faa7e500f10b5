-- `shortest::sets::PairSets::states` meets its contract: the mask has the target states of the masks passed.
use Rattle.shortest.proofs.StopLaws.{StatesBelow}
use Rattle.shortest.proofs.sets.PairSets.states.Given as goal

abbrev pub invariant-loop-m : goal.invariant-loop-m
invariant-loop-m l = StatesBelow l.self.masks l.m-index l.states
