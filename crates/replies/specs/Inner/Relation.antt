-- Relations on the states of a form, a bit for each pair. It is how the code looks for runs over a word.
use Rattle.std.specs.Prelude.{◌≡◌, true, false, ◌↔◌, ℕ, ◌^◌, ◌<◌, ◌≤◌}
use mathlib.Core.List.{[], Memᴰ}
use Rattle.words.specs.Tag.{Word}
use Rattle.words.specs.Forest.{Forest}
use Rattle.automata.specs.Bits.{bit}
use Rattle.automata.specs.ReplyBody.{most_reply_states}
use Rattle.automata.specs.Inner.FormState.{IsFormState}
use Rattle.automata.specs.declared.reply.FormRule.{FormRule}
use Rattle.automata.specs.Reply.{Form, Run}
use Rattle.automata.specs.Inner.ForestRun.{Over}
use Rattle.replies.specs.Inner.Links.{pair_index}

-- a is related to b
abbrev pub Related : ℕ → ℕ → ℕ → Type 0
Related m a b = bit m (pair_index a b) ≡ true

-- row a of a relation: a mask of states, one of so many
abbrev pub row_masks : ℕ
row_masks = 2 ^ most_reply_states

pub record RowOf (m a r : ℕ) : Type 0 where
  pub exact : (s : ℕ) → IsFormState s → bit r s ≡ bit m (pair_index a s)
  pub small : r < row_masks

-- column b of a relation: each state that is related to b is related to 0, and no other pair is there; so it is within the relation of all
-- states to 0
abbrev pub first_column : ℕ
first_column = 0x0101_0101_0101_0101

pub record ColumnOf (m b r : ℕ) : Type 0 where
  pub exact : (a : ℕ) → IsFormState a → bit r (pair_index a 0) ≡ bit m (pair_index a b)
  pub none : (a s : ℕ) → IsFormState a → IsFormState s → 0 < s → bit r (pair_index a s) ≡ false
  pub small : r ≤ first_column

-- a relation gathered in turns: what holds in one of the first n
pub record Gathered (P : ℕ → ℕ → ℕ → Type 0) (n m : ℕ) : Type 0 where
  pub exact : (a b : ℕ) → IsFormState a → IsFormState b → Related m a b ↔ ((k : ℕ) × (k < n) × P k a b)

-- x, and then y, by way of one of the states below n, and of any
abbrev pub Composing : ℕ → ℕ → ℕ → ℕ → Type 0
Composing x y = Gathered (λ p a b. Related x a p × Related y p b)

abbrev pub Composed : ℕ → ℕ → ℕ → Type 0
Composed x y m = Composing x y most_reply_states m

-- the runs over a word with nothing kept
pub record Relates (F : Form) (w : Word) (m : ℕ) : Type 0 where
  pub exact : (a b : ℕ) → IsFormState a → IsFormState b → Related m a b ↔ Run F a [] w b []

-- the states that the rules of a form lead to and keep are few
pub record FewStates (F : Form) : Type 0 where
  pub opening_below : {x : FormRule} → Memᴰ x F.openings → IsFormState x.next × IsFormState x.kept
  pub closing_below : {x : FormRule} → Memᴰ x F.closings → IsFormState x.next

-- the relation of the runs over a forest
pub record OverIs (F : Form) (f : Forest) (m : ℕ) : Type 0 where
  pub exact : (a b : ℕ) → IsFormState a → IsFormState b → Related m a b ↔ Over F a f b
