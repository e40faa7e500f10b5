-- `shortest::insides::Opening::open_code` meets its contract: the goals of the form states passed are member; where no link is, there is
-- none.
use Rattle.automata.specs.TargetBody.{target_of}
use Rattle.relaxation.specs.Inner.PairSet.{Gains}
use Rattle.shortest.proofs.InsideLaws.{CodePassed}
use Rattle.shortest.proofs.insides.Opening.open_code.Given as goal

abbrev pub invariant-loop-i : goal.invariant-loop-i
invariant-loop-i l =
    let t = l.self.tables in
    Gains l.initial.inside.masks l.inside.masks
    (CodePassed (target_of t.target.bytes.now) t.links.now t.lengths.table.now l.self.stops.now.masks l.self.q l.c l.i)
