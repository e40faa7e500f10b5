-- `shortest::first::WayOut::least` meets its contract: it is the least length over the target states passed that are outside the set.
use Rattle.automata.specs.ReplyBody.{form_of}
use Rattle.shortest.proofs.LeastOutsideLaws.{LeastBelow}
use Rattle.shortest.proofs.first.WayOut.least.Given as goal

abbrev pub invariant-loop-s : goal.invariant-loop-s
invariant-loop-s l = LeastBelow (form_of l.self.reply.bytes.now).accepting l.self.lengths.table.now l.x l.self.set l.s l.least
