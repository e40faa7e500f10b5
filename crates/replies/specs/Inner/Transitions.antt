-- The rules of a form as relations, one for each code and kept state. It is how the code for lawful replies looks at the rules.
use Rattle.std.specs.Prelude.{◌≡◌, ◌↔◌, ℕ, ◌+◌, ◌*◌, ◌<◌, ◌≤◌, length, get_or}
use mathlib.Core.List.{List, Memᴰ}
use Rattle.words.specs.Tag.{codes, IsCode}
use Rattle.automata.specs.ReplyBody.{most_reply_states}
use Rattle.automata.specs.Inner.FormState.{IsFormState}
use Rattle.automata.specs.Inner.MaskTable.{Has}
use Rattle.automata.specs.Reply.{rule, Form}
use Rattle.replies.specs.Inner.Relation.{Related, Gathered}

abbrev pub rule_relations : ℕ
rule_relations = codes * most_reply_states

abbrev pub transition_count : ℕ
transition_count = 2 * rule_relations

-- where the relation of a tag's byte and a kept state stands
abbrev pub relation_at : ℕ → ℕ → ℕ
relation_at b k = most_reply_states * b + k

-- of an opening tag and of a closing tag, by the code
abbrev pub opening_at : ℕ → ℕ → ℕ
opening_at c k = relation_at c k

abbrev pub closing_at : ℕ → ℕ → ℕ
closing_at c k = rule_relations + relation_at c k

-- the relations of a form, from index base on
pub record TransitionsOf (F : Form) (base : ℕ) (t : List ℕ) : Type 0 where
  pub long : base + transition_count ≤ length t
  pub opening : (c k p q : ℕ) → IsCode c → IsFormState k → IsFormState p → IsFormState q →
      Related (get_or t (base + opening_at c k) 0) p q ↔ Memᴰ (rule p c q k) F.openings
  pub closing : (c k r s : ℕ) → IsCode c → IsFormState k → IsFormState r → IsFormState s →
      Related (get_or t (base + closing_at c k) 0) r s ↔ Memᴰ (rule r c s k) F.closings

-- no entry from base on has a bit
abbrev pub Bare : ℕ → List ℕ → Type 0
Bare base t = (j i : ℕ) → base ≤ j → Has t j i → ⊥

-- the relations of a form stand from index base on, where no bit stood
pub record Compiled (F : Form) (base : ℕ) (t t' : List ℕ) : Type 0 where
  pub long : length t' ≡ length t
  pub is : TransitionsOf F base t'
  pub earlier : (j i : ℕ) → j < base → Has t' j i ↔ Has t j i
  pub bare : Bare (base + transition_count) t'

-- An element of code c from p to s, with k kept: opened where it begins, then what is within it, then closed.
pub record Across (t : List ℕ) (base c inside k p s : ℕ) : Type 0 where
  pub first : ℕ
  pub last : ℕ
  pub first_small : IsFormState first
  pub last_small : IsFormState last
  pub opened : Related (get_or t (base + opening_at c k) 0) p first
  pub within : Related inside first last
  pub closed : Related (get_or t (base + closing_at c k) 0) last s

-- an element of code c from p to s, with one of the kept states below n
abbrev pub ElementOf : List ℕ → ℕ → ℕ → ℕ → ℕ → ℕ → Type 0
ElementOf t base c inside = Gathered (Across t base c inside)
