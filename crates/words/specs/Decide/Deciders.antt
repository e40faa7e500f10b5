-- Deciders made from deciders: of a negation, of two conditions, of each number below a bound, of some member of a list.
use Rattle.std.specs.Prelude.{◌≡◌, refl, ◌⊎◌, ℕ, zero, suc, ◌<◌}
use Rattle.std.proofs.Common.{subst, inl, inr, ⊎_elim, arith, not-suc-le-zero}
use mathlib.Core.List.Memᴰ
use mathlib.Core.List.{List, [], ◌∷◌, Memᴰ}
use Rattle.std.proofs.Math.Decide.{ℕ_discrete, map_dec}
pub use mathlib.Core.Logic.Dec.{not as not?, and as both?}

pub either? : {A B : Type 0} → Dec A → Dec B → Dec (A ⊎ B)
either? (yes a) e = yes (inl a)
either? (no m) (yes b) = yes (inr b)
either? (no m) (no n) = no (⊎_elim m n)

-- a condition on each number below a bound
pub below? : (P : ℕ → Type 0) → ((i : ℕ) → Dec (P i)) → (n : ℕ) → Dec ((i : ℕ) → i < n → P i)
below? P P? zero = yes (λ i h. absurd (not-suc-le-zero h))
below? P P? (suc n) =
    map_dec (λ (f, p) i h. elim (ℕ_discrete i n) [ yes e ↦ rw e p | no d ↦ f i (omega arith) ])
    (λ f. (λ i h. f i (omega arith), f n (omega arith)))
    (both? (below? P P? n) (P? n))

module _ {A : Type 0} where
  -- whether a member of a list has a decidable property
  pub some? : (P : A → Type 0) → ((a : A) → Dec (P a)) → (l : List A) → Dec ((a : A) × Memᴰ a l × P a)
  some? P P? [] = no (λ w. Memᴰ.not-nil w.1)
  some? P P? (x ∷ l) =
      elim (P? x) [
        | yes h ↦ yes (x, Memᴰ.head refl, h)
        | no n ↦ elim (some? P P? l) [
          | yes w ↦ yes (w.0, Memᴰ.tail w.1, w.2)
          | no m ↦ no (λ w. ⊎_elim (λ e. n (subst P e w.2)) (λ t. m (w.0, t, w.2)) (Memᴰ.cases_cons w.1))
        ]
      ]

  pub mem? : Discrete A → (a : A) (l : List A) → Dec (Memᴰ a l)
  mem? d a l = map_dec (λ w. Memᴰ.cast w.2 w.1) (λ m. (a, m, refl)) (some? (λ b. a ≡ b) (d a) l)
