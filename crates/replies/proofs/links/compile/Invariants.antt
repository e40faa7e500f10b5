-- `replies::links::compile` meets its contract. The invariant: the links of the opening rules below i are put.
use mathlib.Core.Path.{◌≡◌}
use lib.ListN.{length}
use Rattle.automata.specs.Inner.MaskTable.{turns}
use Rattle.replies.specs.Inner.Links.{link_count}
use Rattle.replies.specs.Inner.Linking.{linkings}
use Rattle.replies.proofs.links.compile.Given as goal

abbrev pub invariant-loop-i : goal.invariant-loop-i
invariant-loop-i l = (l.links ≡ turns (linkings l.body.bytes.now) l.i l.initial.links) × (length l.links ≡ link_count)
