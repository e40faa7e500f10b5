-- From x over y to all members of the set of y, word by word: no word touches the lengths that a later one reads.
use mathlib.Core.Path.{◌≡◌, refl, sym, ◌∙◌, ap₂}
use mathlib.Core.Logic.{⊎_elim}
use mathlib.Core.List.{List}
use Prim.Native.Nat.{ℕ, ◌+◌, ◌<◌}
use native.Mathlib.Omega.{arith}
use lib.ListN.{get_or}
use Rattle.automata.specs.Inner.FormState.{IsFormState}
use Rattle.relaxation.specs.Inner.Pairs.{pair_count, form_part}
use Rattle.relaxation.specs.Inner.PairSet.{mask_index, Member}
use Rattle.relaxation.specs.Inner.Lengths.{length_of, capped}
use Rattle.relaxation.specs.Inner.Relaxation.{Found, Firm, Relaxed, Sums, Joins}
use Rattle.relaxation.proofs.Relaxing.{known_stays}
use Rattle.relaxation.proofs.RelaxTurns.{Passed, turns_more, turns_all}
use Rattle.relaxation.proofs.BitsRelaxed.{sum_over}

-- the word of form state r
pub WordTurn : List ℕ → List ℕ → ℕ → ℕ → ℕ → ℕ → ℕ → ℕ → Type 0
WordTurn l members x y r x' z' k' = (x' ≡ x) × (form_part z' ≡ r) × Member members y z' × (k' ≡ sum_over l x y z')

module _ {next : ℕ} (f : Found) (members : List ℕ) (x y : ℕ) (firm : Firm next f) (hx : x < pair_count) (hy : y < pair_count)
    (known : Member f.known x y) {g : Found} (r : ℕ) (hr : IsFormState r)
    (u : Relaxed next (Passed (WordTurn f.lengths members x y) r) f g) where
  -- the two lengths of a sum are what they were at first
  pub near : length_of g.lengths x y ≡ length_of f.lengths x y
  near = known_stays u firm x y hx hy known

  pub far : (z : ℕ) → z < pair_count → form_part z ≡ r → length_of g.lengths y z ≡ length_of f.lengths y z
  unfolding WordTurn
  far z hz e = ⊎_elim (λ s. s) (λ w. let (i, l, o) = w.candidate in let d = o.1 in absurd (omega arith)) (u.falls y z hy hz)

  same_sum : (z : ℕ) → z < pair_count → form_part z ≡ r → sum_over g.lengths x y z ≡ sum_over f.lengths x y z
  same_sum z hz e = ap₂ (λ a b. capped (a + b)) near (far z hz e)

  pub join_more : {h : Found} → Relaxed next (Sums g.lengths x y r (get_or members (mask_index y r) 0)) g h →
      Relaxed next (Passed (WordTurn f.lengths members x y) (r + 1)) f h
  unfolding WordTurn
  join_more v =
      turns_more (WordTurn f.lengths members x y) r u v
      (λ x' z' k' hx' hz' (a, b, c, d). (a, b, rw b c, d ∙ same_sum z' hz' b))
      (λ x' z' k' hx' hz' (a, b, c, d). (a, b, rw b at c, d ∙ sym (same_sum z' hz' b)))

pub join_all : {next : ℕ} {f g : Found} (l members : List ℕ) (x y n : ℕ) → ((z : ℕ) → z < pair_count → form_part z < n) →
    Relaxed next (Passed (WordTurn l members x y) n) f g → Relaxed next (Joins l members x y) f g
unfolding WordTurn
join_all l members x y n every u =
    turns_all (WordTurn l members x y) n u (λ x' z' k' i hx' hz' hi (a, b, c, d). (a, c, d))
    (λ x' z' k' hx' hz' (a, c, d). (form_part z', every z' hz', (a, refl, c, d)))
