-- `shortest::insides::Opening::open_row` meets its contract: the goals at the target states passed are member.
use Rattle.automata.specs.TargetBody.{target_of}
use Rattle.relaxation.specs.Inner.PairSet.{Gains}
use Rattle.shortest.proofs.InsideLaws.{RowPassed}
use Rattle.shortest.proofs.insides.Opening.open_row.Given as goal

abbrev pub invariant-loop-r : goal.invariant-loop-r
invariant-loop-r l =
    let t = l.self.tables in
    Gains l.initial.inside.masks l.inside.masks
    (RowPassed (target_of t.target.bytes.now) t.links.now t.lengths.table.now l.self.stops.now.masks l.self.q l.c l.a l.b l.r)
