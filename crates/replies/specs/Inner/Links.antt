-- An opening and a closing rule of a form belong together where they share the code and the kept state. It is how the code for effects
-- looks at the rules.
use Rattle.std.specs.Prelude.{◌≡◌, ◌↔◌, ℕ, ◌+◌, ◌*◌, length}
use mathlib.Core.List.{List, Memᴰ}
use Rattle.words.specs.Tag.{codes, IsCode}
use Rattle.automata.specs.ReplyBody.{most_reply_states}
use Rattle.automata.specs.Inner.FormState.{IsFormState}
use Rattle.automata.specs.Inner.MaskTable.{Has}
use Rattle.automata.specs.Reply.{Form, rule}

-- An element of code c may lead from state p to s: it opens to q within it, and closes from r.
pub record Linked (F : Form) (c p q r s : ℕ) : Type 0 where
  pub kept : ℕ
  pub opened : Memᴰ (rule p c q kept) F.openings
  pub closed : Memᴰ (rule r c s kept) F.closings

-- a pair of states, among all of them
abbrev pub pairs : ℕ
pairs = most_reply_states * most_reply_states

abbrev pub pair_index : ℕ → ℕ → ℕ
pair_index a b = most_reply_states * a + b

-- a code and three states
abbrev pub code_links : ℕ
code_links = most_reply_states * pairs

abbrev pub link_count : ℕ
link_count = codes * code_links

abbrev pub link_index : ℕ → ℕ → ℕ → ℕ → ℕ
link_index c p q r = code_links * c + (pairs * p + pair_index q r)

-- the links of a form, as a mask of s for each c, p, q, r
pub record LinksOf (F : Form) (links : List ℕ) : Type 0 where
  pub long : length links ≡ link_count
  pub exact : (c p q r s : ℕ) → IsCode c → IsFormState p → IsFormState q → IsFormState r →
      Has links (link_index c p q r) s ↔ Linked F c p q r s
