-- A well-nested word falls into two well-nested words exactly where no element is open.
use mathlib.Core.Path.{◌≡◌, refl, sym, ◌∙◌, ap, subst}
use mathlib.Core.Logic.{◌⊎◌, inl, inr, ⊎_elim, ◌↔◌}
use mathlib.Core.List.{[], ◌∷◌, ◌++◌, append_assoc, append-nil}
use Prim.Native.Nat.{ℕ, zero, suc, ◌+◌, ◌-◌, ◌≤◌}
use native.Mathlib.Omega.{arith}
use native.Mathlib.Decide.{dec_le}
use lib.ListN.{length, take, drop}
use lib.Seq.{take-nil, drop-nil, take-append_seam, drop-append_seam, take-append-le, take-append-add, drop-append-add}
use Rattle.words.specs.Tag.{Tag, opening, closing, Word}
use Rattle.words.specs.Forest.{Forest, none, elem, tags, Coded, WellNested}
use Rattle.words.specs.Opened.{open_after}

-- a forest leaves as many open as it finds
open_through : (f : Forest) (w : Word) (k : ℕ) → open_after (tags f ++ w) k ≡ open_after w k
open_through none w k = refl
open_through (elem c f g) w k =
    ap (λ u. open_after u (suc k)) (append_assoc (tags f) (closing c ∷ tags g) w) ∙
    open_through f (closing c ∷ (tags g ++ w)) (suc k) ∙
    open_through g w k

-- an index within n tags, or past the tag behind them
place : (n j : ℕ) → (j ≤ n) ⊎ ((m : ℕ) × (j ≡ n + suc m))
place n j = elim (dec_le j n) [ yes h ↦ inl h | no h ↦ inr (j - suc n, omega arith) ]

-- m tags past the first element of a forest as many are open as after m tags of the rest
module _ (c : ℕ) (f g : Forest) (m : ℕ) where
  -- behind its opening tag
  abbrev behind : Word
  behind = tags f ++ closing c ∷ tags g

  taken_past : take (length (tags f) + suc m) behind ≡ tags f ++ closing c ∷ take m (tags g)
  taken_past = take-append-add (tags f) (closing c ∷ tags g) (suc m)

  open_past_element : (k : ℕ) → open_after (take (length (tags f) + suc m) behind) (suc k) ≡ open_after (take m (tags g)) k
  open_past_element k = ap (λ u. open_after u (suc k)) taken_past ∙ open_through f (closing c ∷ take m (tags g)) (suc k)

-- within a forest no fewer are open than before it
open_above : (f : Forest) (i k : ℕ) → k ≤ open_after (take i (tags f)) k
open_above none i k = rw (take-nil {A = Tag} i) (omega arith)
open_above (elem c f g) zero k = omega arith
open_above (elem c f g) (suc j) k =
    ⊎_elim
    (λ h. let a = open_above f j (suc k) in rw (take-append-le j (tags f) (closing c ∷ tags g) h) (omega arith))
    (λ (m, e). rw (e, open_past_element c f g m k) (open_above g m k))
    (place (length (tags f)) j)

-- a forest cut in two at an index
record Parted (f : Forest) (i : ℕ) : Type 0 where
  pub front : Forest
  pub back : Forest
  pub first : tags front ≡ take i (tags f)
  pub second : tags back ≡ drop i (tags f)
  pub front_coded : Coded f → Coded front
  pub back_coded : Coded f → Coded back

-- past the first element
module _ (c : ℕ) (f g : Forest) (m : ℕ) (p : Parted g m) where
  parted_past : Parted (elem c f g) (suc (length (tags f) + suc m))
  parted_past =
      record {
        front = elem c f p.front;
        back = p.back;
        first = ap (λ u. opening c ∷ u) (ap (λ u. tags f ++ closing c ∷ u) p.first ∙ sym (taken_past c f g m));
        second = p.second ∙ sym (drop-append-add (tags f) (closing c ∷ tags g) (suc m));
        front_coded = λ (k, cf, cg). (k, cf, p.front_coded cg);
        back_coded = λ (k, cf, cg). p.back_coded cg;
      }

-- a forest falls into two where none is open
cut_forest : (f : Forest) (i : ℕ) → open_after (take i (tags f)) 0 ≡ 0 → Parted f i
cut_forest none i e =
    record { front = none; back = none; first = sym (take-nil i); second = sym (drop-nil i); front_coded = λ h. h; back_coded = λ h. h }
cut_forest (elem c f g) zero e =
    record { front = none; back = elem c f g; first = refl; second = refl; front_coded = λ h. tt; back_coded = λ h. h }
cut_forest (elem c f g) (suc j) e =
    ⊎_elim
    (λ h. let a = open_above f j 1 in absurd (omega (arith, rw (take-append-le j (tags f) (closing c ∷ tags g) h) at e)))
    (λ (m, ej).
    let inner : open_after (take m (tags g)) 0 ≡ 0 = sym (open_past_element c f g m 0) ∙ rw ej at e in
    subst (λ n. Parted (elem c f g) (suc n)) (sym ej) (parted_past c f g m (cut_forest g m inner)))
    (place (length (tags f)) j)

-- none is open after a well-nested word
pub nested_closed : {u : Word} → WellNested u → open_after u 0 ≡ 0
nested_closed {u} n = ap (λ w. open_after w 0) (sym n.spells ∙ sym (append-nil (tags n.forest))) ∙ open_through n.forest [] 0

pub cut_nested : (u v : Word) → WellNested (u ++ v) → (open_after u 0 ≡ 0) ↔ (WellNested u × WellNested v)
cut_nested u v n = (
  λ e.
      let i = length u in
      let first : take i (tags n.forest) ≡ u = ap (take i) n.spells ∙ take-append_seam u v in
      let second : drop i (tags n.forest) ≡ v = ap (drop i) n.spells ∙ drop-append_seam u v in
      let p = cut_forest n.forest i (ap (λ w. open_after w 0) first ∙ e) in (
        record { forest = p.front; coded = p.front_coded n.coded; spells = p.first ∙ first },
        record { forest = p.back; coded = p.back_coded n.coded; spells = p.second ∙ second },
      ),
  λ (nu, nv). nested_closed nu,
)
