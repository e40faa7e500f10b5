-- What `any` over the states of a reply form finds.
use Rattle.std.proofs.Common.{◌≡◌, ℕ, List, true, false, Bool, ◌<◌, ◌↔◌, length, get_or, MatchBool, refl, subst, sym, arith}
use Rattle.std.specs.List.{HoldsAt, AllWithin, range_with_len}
use Rattle.std.proofs.lemmas.Bool.{false≢true}
use Rattle.std.proofs.lemmas.List.FromFn.{get_or-range_with_len}
use Rattle.automata.specs.ReplyBody.{most_reply_states}
use Rattle.automata.specs.Inner.FormState.{IsFormState}

abbrev pub all_states : List ℕ
all_states = range_with_len 0 most_reply_states

state_at : (k : ℕ) → IsFormState k → get_or all_states k 0 ≡ k
state_at k h = omega (arith, get_or-range_with_len 0 most_reply_states k 0 h)

pub some_state : (P : ℕ → Type 0) (r : Bool) →
    MatchBool r ((k : ℕ) × (k < length all_states) × HoldsAt P all_states k) (AllWithin (λ t. P t → ⊥) all_states 0 (length all_states)) →
    (r ≡ true) ↔ ((t : ℕ) × IsFormState t × P t)
some_state P true (k, h, y) = (λ _. (k, h, subst P (state_at k h) (y 0)), λ _. refl)
some_state P false n = (λ e. absurd (false≢true e), λ (t, h, p). absurd (n t 0 (omega arith) h (subst P (sym (state_at t h)) p)))
