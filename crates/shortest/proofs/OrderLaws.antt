-- The order of forests is the byte order of their words, where these are equally long.
use mathlib.Core.Path.{◌≡◌, refl}
use mathlib.Core.Logic.{◌⊎◌, inl, inr, ⊎_elim}
use mathlib.Core.List.{[], ◌∷◌, ◌++◌, append_assoc}
use Prim.Native.Nat.{ℕ}
use native.Mathlib.Omega.{arith}
use lib.ListN.{length}
use Rattle.words.specs.Tag.{closing, Word}
use Rattle.words.specs.Forest.{Forest, none, elem, tags, Coded}
use Rattle.words.specs.Order.{Precedes}
use Rattle.words.specs.Inner.ForestOrder.{ForestPrecedes}
use Rattle.words.proofs.ForestLong.{elements, tags_long}

-- equally long words keep their order whatever follows them
precedes_append : (u v x y : Word) → length u ≡ length v → Precedes u v → Precedes (u ++ x) (v ++ y)
precedes_append u [] x y l p = absurd p
precedes_append [] (t ∷ v) x y l p = absurd (omega arith)
precedes_append (s ∷ u) (t ∷ v) x y l p = ⊎_elim inl (λ (e, r). inr (e, precedes_append u v x y (omega arith) r)) p

-- f comes before g, or both are one and what follows them is in order
abbrev Before : Forest → Forest → Type 0 → Type 0
Before f g Rest = ForestPrecedes f g ⊎ ((f ≡ g) × Rest)

-- two elements with one code: by what is within, then by what follows
elem_before : (c d : ℕ) (f g h k : Forest) (x y : Word) (Rest : Type 0) → c ≡ d → Before f g (Precedes (closing c ∷ x) (closing d ∷ y)) →
    (Precedes x y → Before h k Rest) → Before (elem c f h) (elem d g k) Rest
elem_before c d f g h k x y Rest same inside after =
    ⊎_elim (λ b. inl (inr (same, inl b)))
    (λ (e, p). ⊎_elim (λ less. absurd (omega arith))
    (λ (_, r). ⊎_elim (λ b. inl (inr (same, inr (e, b)))) (λ (e', z). inr (cc, z)) (after r))
    p)
    inside

-- where a closing tag follows both words
precedes_closed : (f g : Forest) → Coded f → Coded g → (a b : ℕ) (u v : Word) →
    Precedes (tags f ++ closing a ∷ u) (tags g ++ closing b ∷ v) → Before f g (Precedes (closing a ∷ u) (closing b ∷ v))
precedes_closed none none cf cg a b u v p = inr (refl, p)
precedes_closed none (elem d g k) cf (hd, _, _) a b u v p = absurd (⊎_elim (λ less. omega arith) (λ (e, _). omega arith) p)
precedes_closed (elem c f h) none cf cg a b u v p = inl tt
precedes_closed (elem c f h) (elem d g k) (_, cf, ch) (_, cg, ck) a b u v p =
    let x = tags h ++ closing a ∷ u in
    let y = tags k ++ closing b ∷ v in
    ⊎_elim (λ less. inl (inl less))
    (λ (e, r). elem_before c d f g h k x y _ e (precedes_closed f g cf cg c d x y (simp append_assoc at r))
    (precedes_closed h k ch ck a b u v))
    p

pub precedes_forest : (f g : Forest) → Coded f → Coded g → elements f ≡ elements g → Precedes (tags f) (tags g) → ForestPrecedes f g
precedes_forest f g cf cg e p =
    let long : length (tags f) ≡ length (tags g) = omega (arith, tags_long f, tags_long g) in
    let decided = precedes_closed f g cf cg 0 0 [] [] (precedes_append (tags f) (tags g) (closing 0 ∷ []) (closing 0 ∷ []) long p) in
    ⊎_elim (λ b. b) (λ (_, r). absurd (⊎_elim (λ less. omega arith) (λ (_, no_more). no_more) r)) decided
