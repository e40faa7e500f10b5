-- What is left of a well-nested word is taken apart at its first tag.
use mathlib.Core.Path.{◌≡◌, refl, sym, ◌∙◌, subst}
use mathlib.Core.List.{[], ◌∷◌, append_assoc}
use Prim.Native.Nat.{ℕ, zero, suc, pred, ◌+◌, ◌≤◌}
use native.Mathlib.Omega.{arith}
use lib.ListN.{take, drop}
use Rattle.words.specs.Tag.{Tag, opening, closing, Word}
use Rattle.words.specs.Forest.{Forest, none, elem, tags, WellNested, depth}
use Rattle.words.specs.Opened.{open_after}
use Rattle.words.specs.Inner.Rest.{Rest, last, inner, Closes}

pub other_way : {x y : ℕ} {u v : Word} → opening x ∷ u ≡ closing y ∷ v → ⊥
other_way e = let z : ◌≡◌ {A = ℕ} 0 1 = cc in omega arith

no_tag : {t : Tag} {u : Word} → t ∷ u ≡ [] → ⊥
no_tag e = let z : ◌≡◌ {A = ℕ} 0 1 = cc in omega arith

pub tail_of : {s t : Tag} {u v : Word} → s ∷ u ≡ t ∷ v → u ≡ v
tail_of e = cc

pub rest_nested : {m : ℕ} {w : Word} (n : WellNested w) → depth n.forest ≤ m → Rest m 0 w
rest_nested n h = last n.forest (sym n.spells) h

module _ {m : ℕ} where
  -- no more elements are open than m
  pub rest_room : {k : ℕ} {w : Word} → Rest m k w → k ≤ m
  rest_room (last f e h) = omega arith
  rest_room (inner f d e r h) = omega arith

  -- with none open the rest is a forest
  pub rest_forest : {w : Word} → Rest m 0 w → (f : Forest) × (w ≡ tags f) × (depth f ≤ m)
  rest_forest (last f e h) = (f, e, h)

  pub rest_end : {k : ℕ} → Rest m k [] → k ≡ 0
  rest_end (last f e h) = refl
  rest_end (inner none d e r h) = absurd (no_tag (sym e))
  rest_end (inner (elem b f g) d e r h) = absurd (no_tag (sym e))

  module _ {c : ℕ} {w : Word} where
    pub rest_opening : {k : ℕ} → Rest m k (opening c ∷ w) → Rest m (suc k) w
    rest_opening (last none e h) = absurd (no_tag e)
    rest_opening (last (elem b f g) e h) = inner f b (tail_of e) (last g refl (omega arith)) (omega arith)
    rest_opening (inner none d e r h) = absurd (other_way e)
    rest_opening (inner {v = v} (elem b f g) d e r h) =
        inner f b (tail_of e ∙ append_assoc (tags f) (closing b ∷ tags g) (closing d ∷ v)) (inner g d refl r (omega arith)) (omega arith)

    -- an element is open at a closing tag
    pub rest_closing : {k : ℕ} → Rest m k (closing c ∷ w) → (j : ℕ) × (k ≡ suc j) × Rest m j w
    rest_closing (last none e h) = absurd (no_tag e)
    rest_closing (last (elem b f g) e h) = absurd (other_way (sym e))
    rest_closing (inner {k = k} none d e r h) = (k, refl, subst (λ u. Rest m k u) (sym (tail_of e)) r)
    rest_closing (inner (elem b f g) d e r h) = absurd (other_way (sym e))

  pub rest_closed : {k c : ℕ} {w : Word} → Rest m (suc k) (closing c ∷ w) → Rest m k w
  rest_closed {w = w} r = let (j, e, x) = rest_closing r in subst (λ i. Rest m i w) (omega arith) x

  pub rest_none_open : {c : ℕ} {w : Word} → Rest m 0 (closing c ∷ w) → ⊥
  rest_none_open r = let (j, e, x) = rest_closing r in omega arith

  -- the tags left at a position
  pub rest_at : (w : Word) (k i : ℕ) → Rest m k w → Rest m (open_after (take i w) k) (drop i w)
  rest_at w k zero r = r
  rest_at [] k (suc i) r = r
  rest_at (opening c ∷ w) k (suc i) r = rest_at w (suc k) i (rest_opening r)
  rest_at (closing c ∷ w) k (suc i) r = let x = rest_closing r in rest_at w (pred k) i (subst (λ j. Rest m (pred j) w) (sym x.1) x.2)

-- a larger bound
pub rest_more : {m n k : ℕ} {w : Word} → m ≤ n → Rest m k w → Rest n k w
rest_more l (last f e h) = last f e (omega arith)
rest_more l (inner f c e r h) = inner f c e (rest_more l r) (omega arith)

-- what is left of a word, with no bound on how many are open
pub closes_forest : {w : Word} (f : Forest) → w ≡ tags f → Closes 0 w
closes_forest f e = (depth f, last f e (omega arith))

pub closes_nested : {w : Word} → WellNested w → Closes 0 w
closes_nested n = closes_forest n.forest (sym n.spells)

module _ {k c : ℕ} {w : Word} where
  pub closes_opened : Closes k (opening c ∷ w) → Closes (suc k) w
  closes_opened (m, r) = (m, rest_opening r)

  pub closes_closed : Closes (suc k) (closing c ∷ w) → Closes k w
  closes_closed (m, r) = (m, rest_closed r)

pub closes_none_open : {c : ℕ} {w : Word} → Closes 0 (closing c ∷ w) → ⊥
closes_none_open (m, r) = rest_none_open r

pub closes_closing : {k c : ℕ} {w : Word} → Closes k w → Closes (suc k) (closing c ∷ w)
closes_closing {k} {c} (m, r) = (suc k + m, inner none c refl (rest_more (omega arith) r) (omega arith))
