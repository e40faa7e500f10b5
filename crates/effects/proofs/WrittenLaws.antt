-- The loop that writes the numbers of a form: the numbers so far.
use mathlib.Core.List.{List}
use Prim.Native.Nat.{ℕ, ◌+◌, ◌/◌, ◌%◌, ◌<◌}
use native.Mathlib.Omega.{arith}
use native.Mathlib.Decide.{ℕ_discrete}
use lib.ListN.{length, set}
use lib.Seq.{get_or-set_same, get_or-set_other}
use Rattle.automata.specs.TargetBody.{most_states}
use Rattle.automata.specs.ReplyBody.{most_reply_states}
use Rattle.relaxation.specs.Inner.Pairs.{pair_of}
use Rattle.lengths.specs.Inner.FormLengths.{LeastOver}
use Rattle.effects.specs.Inner.Numbers.{NumberOf, NumbersWritten}

module _ (lengths : List ℕ) (from last : ℕ) where
  pub written_more : (n : ℕ) (numbers : List ℕ) (k number : ℕ) → n < length numbers → NumbersWritten lengths from last n numbers →
      LeastOver lengths (pair_of from (n / most_states)) last (n % most_states) most_reply_states k → NumberOf k number →
      NumbersWritten lengths from last (n + 1) (set numbers n number)
  written_more n numbers k number l w o e =
      record {
        written = λ i h. elim (ℕ_discrete i n) [
          | yes x ↦ rw x (k, o, rw (get_or-set_same numbers n number 0 l) e)
          | no d ↦ let y = w.written i (omega arith) in (y.0, y.1, rw (get_or-set_other numbers n i number 0 d) y.2)
        ];
      }
