-- Goals, and the forests that meet one of them with as few elements as any forest can. The search for the first reply goes from such a set
-- of forests to those of its parts.
use Rattle.std.specs.Prelude.{◌≡◌, List, ℕ, ◌+◌, ◌*◌, ◌<◌, ◌≤◌, length}
use Rattle.words.specs.Forest.{Forest}
use Rattle.words.specs.Inner.ForestOrder.{ForestPrecedes}
use Rattle.words.proofs.ForestLong.{elements}
use Rattle.automata.specs.Target.{Target}
use Rattle.automata.specs.TargetBody.{target_of, ValidTarget}
use Rattle.automata.specs.Reply.{Form}
use Rattle.automata.specs.ReplyBody.{most_reply_states}
use Rattle.automata.specs.Inner.FormState.{IsFormState}
use Rattle.replies.specs.Inner.Links.{LinksOf}
use Rattle.replies.specs.Inner.Relation.{FewStates}
use Rattle.replies.specs.Inner.Transitions.{TransitionsOf}
use Rattle.effects.specs.Inner.EffectForest.{Led}
use Rattle.relaxation.specs.Inner.Pairs.{pair_count, pair_of, form_part, target_part}
use Rattle.relaxation.specs.Inner.PairSet.{Member}
use Rattle.relaxation.specs.Inner.Lengths.{length_of, length_cap}
use Rattle.lengths.specs.Inner.Search.{LeastLengths}

-- A table of goals has a set of pairs z for each form state p: what leads from p, and the target state at hand, to z. It has a mask of
-- target states for each two form states.
abbrev pub goal_count : ℕ
goal_count = most_reply_states * most_reply_states

-- the tables of one form, and what they tell
pub record FormTables (A : Target) (F : Form) (links rules lengths : List ℕ) : Type 0 where
  pub few : FewStates F
  pub links_of : LinksOf F links
  pub rules_are : TransitionsOf F 0 rules
  pub least : LeastLengths A links lengths

-- a forest that leads from a form state p and the target state q to a goal of p, with no more elements than the least length there
pub record Wanted (A : Target) (F : Form) (lengths goals : List ℕ) (q : ℕ) (f : Forest) : Type 0 where
  pub from : ℕ
  pub to : ℕ
  pub from_state : IsFormState from
  pub to_pair : to < pair_count
  pub goal : Member goals from to
  pub led : Led A F from q (form_part to) (target_part to) f
  pub size : elements f ≡ length_of lengths (pair_of from q) to

-- of these the first in order
pub record FirstWanted (A : Target) (F : Form) (lengths goals : List ℕ) (q : ℕ) (f : Forest) : Type 0 where
  pub wanted : Wanted A F lengths goals q f
  pub first : (g : Forest) → Wanted A F lengths goals q g → ¬ ForestPrecedes g f

-- there is a goal, each is counted, and what leads to it has room from a place on, two bytes for each element
pub record Sought (lengths goals : List ℕ) (q at room : ℕ) : Type 0 where
  pub long : length goals ≡ goal_count
  pub some : (p : ℕ) × (z : ℕ) × IsFormState p × (z < pair_count) × Member goals p z
  pub counted : (p z : ℕ) → IsFormState p → z < pair_count → Member goals p z → length_of lengths (pair_of p q) z < length_cap
  pub within : (p z : ℕ) → IsFormState p → z < pair_count → Member goals p z → at + 2 * length_of lengths (pair_of p q) z ≤ room

-- bodies and tables that belong together
pub record Searchable (target links rules lengths : List ℕ) : Type 0 where
  pub valid : ValidTarget target
  pub form : Form
  pub tables : FormTables (target_of target) form links rules lengths
