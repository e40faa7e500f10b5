-- `relaxation::around::linked` meets its contract. The invariant: no link so far.
use mathlib.Core.Path.{◌≡◌}
use Prim.Native.Nat.{ℕ, ◌<◌}
use lib.ListN.{get_or}
use Rattle.replies.specs.Inner.Links.{link_index}
use Rattle.relaxation.proofs.around.linked.Given as goal

abbrev pub invariant-loop-p : goal.invariant-loop-p
invariant-loop-p l = (k : ℕ) → k < l.p → get_or l.links (link_index l.c k l.a l.b) 0 ≡ 0
