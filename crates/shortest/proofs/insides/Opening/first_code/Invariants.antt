-- `shortest::insides::Opening::first_code` meets its contract: the codes passed have no goal, and the sets have no member.
use Rattle.automata.specs.TargetBody.{target_of}
use Rattle.relaxation.specs.Inner.PairSet.{Member}
use Rattle.shortest.proofs.ChooseLaws.{NoneYet}
use Rattle.shortest.proofs.insides.Opening.first_code.Given as goal

abbrev pub invariant-loop-c : goal.invariant-loop-c
invariant-loop-c l =
    let t = l.self.tables in
    NoneYet (Member l.self.stops.now.masks) (target_of t.target.bytes.now) t.links.now t.lengths.table.now l.self.q l.c l.inside.masks
