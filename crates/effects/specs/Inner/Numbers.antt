-- The numbers of one form, written from the least lengths.
use Rattle.std.specs.Prelude.{◌≡◌, List, ℕ, suc, ◌+◌, ◌*◌, ◌/◌, ◌%◌, ◌<◌, ◌≤◌, get_or}
use Rattle.automata.specs.Target.{Target}
use Rattle.automata.specs.TargetBody.{most_states}
use Rattle.automata.specs.Reply.{Form}
use Rattle.automata.specs.ReplyBody.{most_reply_states}
use Rattle.effects.specs.Effects.{Told, told, form_numbers, long_number}
use Rattle.effects.specs.declared.Effects.{Effects}
use Rattle.relaxation.specs.Inner.Pairs.{pair_of}
use Rattle.relaxation.specs.Inner.Lengths.{no_length}
use Rattle.lengths.specs.Inner.FormLengths.{LeastOver}

-- effects as their numbers are lent
abbrev pub numbers_of : List ℕ → Effects
numbers_of l = record { numbers = l }

-- the number that stands for the least length k: one more, or 0 for none
pub record NumberOf (k number : ℕ) : Type 0 where
  pub none : no_length ≤ k → number ≡ 0
  pub some : k < no_length → number ≡ suc k

-- The first n numbers were written, by the least lengths from form state `from`.
pub record NumbersWritten (lengths : List ℕ) (from last n : ℕ) (numbers : List ℕ) : Type 0 where
  pub written : (i : ℕ) → i < n → (k : ℕ) × LeastOver lengths (pair_of from (i / most_states)) last (i % most_states) most_reply_states k ×
      NumberOf k (get_or numbers i 0)

-- The numbers of one form.
pub record NumbersPut (A : Target) (F : Form) (numbers : List ℕ) : Type 0 where
  pub exact : (q s : ℕ) → q < A.states → s < most_states → Told A F q s (told (get_or numbers (most_states * q + s) 0))
  pub beyond : (q s : ℕ) → A.states ≤ q → q < most_states → s < most_states → get_or numbers (most_states * q + s) 0 ≡ 0
  pub numbered : (i : ℕ) → i < form_numbers → get_or numbers i 0 ≤ long_number
