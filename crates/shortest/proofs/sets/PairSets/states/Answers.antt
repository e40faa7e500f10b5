use Rattle.shortest.proofs.StopLaws.{states_more}
use Rattle.shortest.proofs.sets.PairSets.states.Goals as goal

pub loop-m-preserved : goal.loop-m-preserved
loop-m-preserved c = states_more c.args.self.now.masks c.loop-m.m-index c.loop-m.states c.loop-m.invariant
