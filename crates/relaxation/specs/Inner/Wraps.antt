-- Elements around an inside: where they lead, by the links of a form's rules and by the target.
use Rattle.std.specs.Prelude.{◌≡◌, Bool, true, false, cond, List, ℕ, zero, suc, ◌^◌, ◌<◌, get_or}
use Rattle.std.specs.Int.Bits.{bit_or}
use Rattle.words.specs.Tag.{IsCode}
use Rattle.automata.specs.Bits.{bit}
use Rattle.automata.specs.Target.{Target}
use Rattle.automata.specs.Inner.FormState.{IsFormState}
use Rattle.automata.specs.Inner.MaskTable.{Has}
use Rattle.replies.specs.Inner.Links.{link_index}
use Rattle.relaxation.specs.Inner.Pairs.{form_part, target_part}

-- the links say that an element of code c, opened to a and closed from b, leads from p to s
abbrev pub LeadsBeside : List ℕ → ℕ → ℕ → ℕ → ℕ → ℕ → Type 0
LeadsBeside links c p a b s = Has links (link_index c p a b) s

-- x leads to z over one element of code c whose inside leads from pair y to form state b and target state r
pub record Wraps (A : Target) (links : List ℕ) (y b r x z c : ℕ) : Type 0 where
  pub is_code : IsCode c
  pub below : target_part x < A.states
  pub opens : A.open_to (target_part x) c ≡ target_part y
  pub leads : LeadsBeside links c (form_part x) (form_part y) b (form_part z)
  pub closes : A.close_to r (target_part x) c ≡ target_part z

-- where a closing tag leads, with q taken back
unfoldable pub closing_step : Target → ℕ → ℕ → ℕ → ℕ
closing_step A q c r = A.close_to r q c

-- the states below n that f makes of those in a mask
unfoldable pub image_of : (ℕ → ℕ) → ℕ → ℕ → ℕ
image_of f m zero = 0
image_of f m (suc r) = cond (bit m r) (bit_or (image_of f m r) (2 ^ f r)) (image_of f m r)

-- whether some element of code c has an inside that leads from a to b
pub record SomeLink (links : List ℕ) (c a b : ℕ) (r : Bool) : Type 0 where
  pub none : r ≡ false → (p : ℕ) → IsFormState p → get_or links (link_index c p a b) 0 ≡ 0
  pub some : r ≡ true → (p : ℕ) × IsFormState p × ¬ (get_or links (link_index c p a b) 0 ≡ 0)
