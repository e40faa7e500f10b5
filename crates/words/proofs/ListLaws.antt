-- Laws of a test at every member of a list, of a function's values in a list, and of the numbers that pass a test.
use mathlib.Core.Path.{◌≡◌, refl, sym, ◌∙◌, ap, subst}
use mathlib.Core.Bool.{Bool, true, false, cond, ◌&&◌, and-false, true≢false}
use mathlib.Core.Logic.{◌↔◌, ⊎_elim}
use mathlib.Core.List.{List, [], ◌∷◌, Memᴰ}
use Prim.Native.Nat.{ℕ, zero, suc, ◌+◌, ◌<◌, ◌≤◌}
use native.Mathlib.Omega.{arith}
use native.Mathlib.Decide.{ℕ_discrete}
use native.Mathlib.Nat.{add-zero}
use lib.ListN.{get_or}
use Rattle.words.specs.Lists.{tabulated, picked}
use Rattle.words.specs.Inner.All.{all}
use Rattle.words.proofs.Truth.{and_both}

module _ {ℓ} {A : Type ℓ} (p : A → Bool) where
  pub all_of : (l : List A) → ((x : A) → Memᴰ x l → p x ≡ true) → all p l ≡ true
  all_of [] h = refl
  all_of (y ∷ l) h = ap (λ b. b && all p l) (h y (mathlib.Core.List.Memᴰ.head refl)) ∙ all_of l (λ x m. h x (mathlib.Core.List.Memᴰ.tail m))

  pub all_at : (l : List A) {x : A} → all p l ≡ true → Memᴰ x l → p x ≡ true
  all_at [] e m = elim m [ ]
  all_at (y ∷ l) e (mathlib.Core.List.Memᴰ.head h) = ap p h ∙ (and_both (p y) (all p l) e).0
  all_at (y ∷ l) e (mathlib.Core.List.Memᴰ.tail m) = all_at l (and_both (p y) (all p l) e).1 m

  pub not_all : (l : List A) → all p l ≡ false → (x : A) × Memᴰ x l × (p x ≡ false)
  not_all [] e = absurd (true≢false e)
  not_all (y ∷ l) e =
      (elim (p y) as (λ b. p y ≡ b → (b && all p l) ≡ false → ((x : A) × Memᴰ x (y ∷ l) × (p x ≡ false))) [
        | true ↦ λ t h. let r = not_all l h in (r.0, mathlib.Core.List.Memᴰ.tail r.1, r.2)
        | false ↦ λ n h. (y, mathlib.Core.List.Memᴰ.head refl, n)
      ])
      refl e

  pub all_but : {x : A} {l : List A} → Memᴰ x l → p x ≡ false → all p l ≡ false
  all_but (mathlib.Core.List.Memᴰ.head {xs = l} h) e = ap (λ b. b && all p l) (sym (ap p h) ∙ e)
  all_but (mathlib.Core.List.Memᴰ.tail {x = y} m) e = ap (λ b. p y && b) (all_but m e) ∙ and-false (p y)

-- the members of a tabulated list are the function's values, each at its index
module _ {A : Type 0} (f : ℕ → A) where
  pub tabulated_at : (i n k : ℕ) (d : A) → k < n → get_or (tabulated f i n) k d ≡ f (i + k)
  tabulated_at i zero k d h = absurd (omega arith)
  tabulated_at i (suc n) zero d h = ap f (omega arith)
  tabulated_at i (suc n) (suc k) d h = tabulated_at (suc i) n k d (omega arith) ∙ ap f (omega arith)

  in_tabulated : (i n x : ℕ) (a : A) → a ≡ f (i + x) → x < n → Memᴰ a (tabulated f i n)
  in_tabulated i zero x a e h = absurd (omega arith)
  in_tabulated i (suc n) zero a e h = mathlib.Core.List.Memᴰ.head (e ∙ ap f (add-zero i))
  in_tabulated i (suc n) (suc x) a e h = mathlib.Core.List.Memᴰ.tail (in_tabulated (suc i) n x a (e ∙ ap f (omega arith)) (omega arith))

  of_tabulated : (i n : ℕ) (a : A) → Memᴰ a (tabulated f i n) → (x : ℕ) × (x < n) × (a ≡ f (i + x))
  of_tabulated i zero a m = elim m [ ]
  of_tabulated i (suc n) a (mathlib.Core.List.Memᴰ.head e) = (0, omega arith, e ∙ ap f (omega arith))
  of_tabulated i (suc n) a (mathlib.Core.List.Memᴰ.tail m) =
      let (x, h, e) = of_tabulated (suc i) n a m in (suc x, omega arith, e ∙ ap f (omega arith))

  pub tabulated_index : (n : ℕ) (a : A) → Memᴰ a (tabulated f 0 n) ↔ ((x : ℕ) × (x < n) × (a ≡ f x))
  tabulated_index n a = (
    λ m. let (x, h, e) = of_tabulated 0 n a m in (x, h, e ∙ ap f (omega arith)),
    λ (x, h, e). in_tabulated 0 n x a (e ∙ ap f (omega arith)) h,
  )

module _ (p : ℕ → Bool) where
  -- what is picked passes the test, and is one of the n
  pub picked_passes : (i n : ℕ) {x : ℕ} → Memᴰ x (picked p i n) → (p x ≡ true) × (x < i + n)
  picked_passes i zero m = elim m [ ]
  picked_passes i (suc n) {x} m =
      let rest = picked p (suc i) n in
      let later : Memᴰ x rest → (p x ≡ true) × (x < i + suc n) =
      λ t. let (e, l) = picked_passes (suc i) n t in (e, omega arith) in
      (elim (p i) as (λ b. p i ≡ b → Memᴰ x (cond b (i ∷ rest) rest) → (p x ≡ true) × (x < i + suc n)) [
        | true ↦ λ e t. ⊎_elim (λ h. (ap p h ∙ e, omega arith)) later (mathlib.Core.List.Memᴰ.cases_cons t)
        | false ↦ λ e t. later t
      ])
      refl m

  -- a number that passes it is picked
  pub in_picked : (i n : ℕ) {x : ℕ} → i ≤ x → x < i + n → p x ≡ true → Memᴰ x (picked p i n)
  in_picked i zero l h e = absurd (omega arith)
  in_picked i (suc n) {x} l h e =
      let rest = picked p (suc i) n in
      (elim (p i) as (λ b. p i ≡ b → Memᴰ x (cond b (i ∷ rest) rest)) [
        | true ↦ λ t. elim (ℕ_discrete x i) [
          | yes s ↦ mathlib.Core.List.Memᴰ.head s
          | no d ↦ mathlib.Core.List.Memᴰ.tail (in_picked (suc i) n (omega arith) (omega arith) e)
        ]
        | false ↦ λ f. elim (ℕ_discrete x i) [
          | yes s ↦ absurd (true≢false (sym e ∙ subst (λ y. p y ≡ false) (sym s) f))
          | no d ↦ in_picked (suc i) n (omega arith) (omega arith) e
        ]
      ])
      refl

  -- a test of all that are picked
  module _ (r : ℕ → Bool) (i n : ℕ) where
    pub all_picked : ((x : ℕ) → p x ≡ true → r x ≡ true) → all r (picked p i n) ≡ true
    all_picked h = all_of r (picked p i n) (λ x m. h x (picked_passes i n m).0)

    pub picked_all : all r (picked p i n) ≡ true → (x : ℕ) → i ≤ x → x < i + n → p x ≡ true → r x ≡ true
    picked_all e x l h k = all_at r (picked p i n) e (in_picked i n l h k)
