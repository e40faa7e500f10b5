-- A list is saturated under a decidable rule. No promise to an outsider cites this file.
use Rattle.std.proofs.Common.{subst, ⊎_elim}
use Rattle.std.proofs.Math.Path.{subst⁻¹}
use mathlib.Core.List.Memᴰ
use mathlib.Core.List.{List, [], ◌∷◌, Memᴰ}
use Rattle.words.specs.Decide.Deciders.{mem?}

-- `Next l a`: a follows from the elements of l
module _ {A : Type 0} (Good : A → Type 0) (Next : List A → A → Type 0) where
  -- good elements, with all of s and each element of u that follows from them
  pub record Saturated (u s : List A) : Type 0 where
    pub known : List A
    pub good : (a : A) → Memᴰ a known → Good a
    pub kept : (a : A) → Memᴰ a s → Memᴰ a known
    pub closed : (a : A) → Memᴰ a u → Next known a → Memᴰ a known

  enough : {x : A} {u s : List A} (k : Saturated u s) → (Next k.known x → Memᴰ x k.known) → Saturated (x ∷ u) s
  enough {x} k h =
      record {
        known = k.known;
        good = k.good;
        kept = k.kept;
        closed = λ a m n. ⊎_elim (λ e. Memᴰ.cast e (h (subst (Next k.known) e n))) (λ t. k.closed a t n) (Memᴰ.cases_cons m);
      }

  more : {x : A} {l u s : List A} → Saturated u (x ∷ l) → ((a : A) → Memᴰ a s → Memᴰ a l) → Saturated (x ∷ u) s
  more k h =
      record {
        known = k.known;
        good = k.good;
        kept = λ a m. k.kept a (Memᴰ.tail (h a m));
        closed = λ a m n. ⊎_elim (λ e. k.kept a (Memᴰ.head e)) (λ t. k.closed a t n) (Memᴰ.cases_cons m);
      }

  one_more : {x : A} {l : List A} → Good x → ((a : A) → Memᴰ a l → Good a) → (a : A) → Memᴰ a (x ∷ l) → Good a
  one_more g h a m = ⊎_elim (λ e. subst⁻¹ Good e g) (h a) (Memᴰ.cases_cons m)

  module _ (d : Discrete A) (next? : (l : List A) (a : A) → Dec (Next l a))
      (sound : (l : List A) → ((a : A) → Memᴰ a l → Good a) → (a : A) → Next l a → Good a) where
    -- An element that is new begins another pass over those behind it.
    pub saturate : (u s : List A) → ((a : A) → Memᴰ a s → Good a) → Saturated u s
    saturate [] s h = record { known = s; good = h; kept = λ a m. m; closed = λ a m. absurd (Memᴰ.not-nil m) }
    saturate (x ∷ u) s h =
        let k = saturate u s h in
        elim (mem? d x k.known) [
          | yes m ↦ enough k (λ n. m)
          | no m ↦ elim (next? k.known x) [
            | no n ↦ enough k (λ y. absurd (n y))
            | yes y ↦ more (saturate u (x ∷ k.known) (one_more (sound k.known k.good x y) k.good)) k.kept
          ]
        ]
