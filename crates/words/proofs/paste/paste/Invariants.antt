-- `words::paste::paste` meets its contract: after i turns the first i bytes of the piece stand in the buffer.
use mathlib.Core.Path.{◌≡◌}
use Prim.Native.Nat.{◌≤◌}
use lib.ListN.{length}
use lib.Seq.{paste}
use Rattle.words.proofs.paste.paste.Given as goal

abbrev pub invariant-loop-i : goal.invariant-loop-i
invariant-loop-i l = (l.i ≤ length l.piece) × (l.buffer ≡ paste l.initial.buffer l.at l.piece l.i)
