-- A decision's test, from a proof of either side, and back.
use mathlib.Core.Path.{◌≡◌, refl, sym, ◌∙◌}
use mathlib.Core.Bool.{Bool, true, false, decide, decide_iff, true≢false}
use mathlib.Core.Logic.{◌↔◌}

pub decided_yes : {A : Type 0} (d : Dec A) → A → decide d ≡ true
decided_yes d = (decide_iff d).1

pub decided_true : {A : Type 0} (d : Dec A) → decide d ≡ true → A
decided_true d = (decide_iff d).0

pub decided_no : {A : Type 0} (d : Dec A) → ¬ A → decide d ≡ false
unfolding decide
decided_no (yes a) n = absurd (n a)
decided_no (no _) n = refl

pub decided_false : {A : Type 0} (d : Dec A) → decide d ≡ false → ¬ A
decided_false d e a = true≢false (sym (decided_yes d a) ∙ e)

-- a program's test that holds exactly where the condition does is the decision's
pub decided_iff : {A : Type 0} (d : Dec A) (r : Bool) → (r ≡ true) ↔ A → r ≡ decide d
decided_iff d true (h, _) = sym (decided_yes d (h refl))
decided_iff d false (_, h) = sym (decided_no d (λ a. true≢false (sym (h a))))
