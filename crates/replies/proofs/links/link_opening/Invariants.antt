-- `replies::links::link_opening` meets its contract. The invariant: the links with the closing rules below j are put.
use mathlib.Core.Path.{◌≡◌}
use lib.ListN.{length}
use Rattle.automata.specs.Inner.MaskTable.{puts}
use Rattle.replies.specs.Inner.Links.{link_count}
use Rattle.replies.specs.Inner.Linking.{linking}
use Rattle.replies.proofs.links.link_opening.Given as goal

abbrev pub invariant-loop-j : goal.invariant-loop-j
invariant-loop-j l = (l.links ≡ puts (linking l.body.bytes.now l.i) l.j l.initial.links) × (length l.links ≡ link_count)
