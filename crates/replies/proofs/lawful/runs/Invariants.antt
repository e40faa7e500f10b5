-- `replies::lawful::runs` meets its contract. The invariant: the relations are those of what passed, one for each open element.
use mathlib.Core.Path.{◌≡◌}
use Prim.Native.Nat.{◌+◌, ◌≤◌}
use lib.ListN.{length}
use Rattle.words.specs.Tag.{word_of}
use Rattle.words.specs.Opened.{open_at}
use Rattle.automata.specs.Small.{most_reply_depth}
use Rattle.replies.proofs.LawfulPass.{RunsBefore}
use Rattle.replies.proofs.lawful.runs.Given as goal

abbrev pub invariant-loop-b : goal.invariant-loop-b
invariant-loop-b l =
    RunsBefore 0 l.table l.word l.«open» l.count l.b-index × (length l.«open» ≡ most_reply_depth + 1) ×
    (l.count ≡ open_at (word_of l.word) l.b-index) × (l.count ≤ most_reply_depth)
