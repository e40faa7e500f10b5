-- `contents::locate` meets its contract: the invariant has that the entries passed were due, where their bodies begin, and where the
-- reader stands.
use mathlib.Core.Path.{◌≡◌}
use Prim.Native.Nat.{ℕ, ◌<◌, ◌≤◌}
use lib.ListN.{length, get_or}
use Rattle.contents.specs.Contents.{entry_count, role_at, offset_at}
use Rattle.contents.specs.Inner.Due.{due_role}
use Rattle.contents.proofs.locate.Given as goal

abbrev pub invariant-loop-i : goal.invariant-loop-i
invariant-loop-i l =
    (l.reader.file.now ≡ l.file) × (l.reader.next ≡ offset_at l.file l.i) × (l.reader.next ≤ length l.file) ×
    (length l.at ≡ entry_count) ×
    ((k : ℕ) → k < l.i → get_or l.at k 0 ≡ offset_at l.file k) ×
    ((k : ℕ) → k < l.i → role_at l.file k ≡ due_role k)
