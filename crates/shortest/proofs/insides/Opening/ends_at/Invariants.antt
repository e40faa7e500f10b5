-- `shortest::insides::Opening::ends_at` meets its contract: no form state passed is the end of such an element.
use Rattle.std.proofs.Common.{◌≡◌, true, ℕ, ◌<◌}
use Rattle.automata.specs.Bits.{bit}
use Rattle.automata.specs.Inner.StatesIn.{StatesFrom}
use Rattle.relaxation.specs.Inner.Pairs.{pair_of}
use Rattle.relaxation.specs.Inner.PairSet.{Member}
use Rattle.relaxation.specs.Inner.Lengths.{length_of}
use Rattle.shortest.proofs.insides.Opening.ends_at.Given as goal

abbrev pub invariant-loop-s : goal.invariant-loop-s
invariant-loop-s l =
    (from : ℕ) × StatesFrom l.link from l.s-iterator ×
    ((s : ℕ) → s < from → bit l.link s ≡ true → Member l.self.stops.now.masks l.p (pair_of s l.t) →
    ¬ (length_of l.self.tables.lengths.table.now (pair_of l.p l.self.q) (pair_of s l.t) ≡ l.e))
