-- The runs of a reply form and of the target side by side, over forests of so many elements.
use Rattle.std.specs.Prelude.{List, ℕ, suc, ◌+◌}
use Rattle.words.specs.Tag.{IsCode}
use Rattle.automata.specs.Target.{Target}
use Rattle.automata.specs.Inner.FormState.{IsFormState}
use Rattle.relaxation.specs.Inner.Pairs.{form_part, target_part}
use Rattle.relaxation.specs.Inner.Wraps.{LeadsBeside}

-- (p, q) leads over a forest of n elements to (p', q')
pub data Leads (A : Target) (links : List ℕ) : ℕ → ℕ → ℕ → ℕ → ℕ → Type 0 where
  leads_none : {p q : ℕ} → Leads A links p q p q 0
  leads_elem : {p q c a b r s p' q' m n : ℕ} → IsCode c → IsFormState a → IsFormState b → IsFormState s → LeadsBeside links c p a b s →
      Leads A links a (A.open_to q c) b r m → Leads A links s (A.close_to r q c) p' q' n → Leads A links p q p' q' (suc (m + n))

-- pair x leads to pair z
abbrev pub PairLeads : Target → List ℕ → ℕ → ℕ → ℕ → Type 0
PairLeads A links x z n = Leads A links (form_part x) (target_part x) (form_part z) (target_part z) n
