-- Laws of putting rows aside: the masks of a row are cleared one by one, and then row after row.
use mathlib.Core.Path.{◌≡◌, refl, sym, ◌∙◌, ap₂}
use mathlib.Core.Logic.{◌⊎◌, inl, inr, ⊎_elim}
use mathlib.Core.List.{List}
use Prim.Native.Nat.{ℕ, zero, suc, ◌+◌, ◌<◌, ◌≤◌}
use native.Mathlib.Omega.{arith}
use native.Mathlib.Numerals.{add-one}
use native.Mathlib.Decide.{ℕ_discrete, dec_lt}
use lib.ListN.{length, get_or, set, length-set}
use lib.Seq.{paste, get_or-set_same, get_or-set_other}
use Rattle.std.proofs.lemmas.List.Edits.{paste_none, paste_more, length-paste}
use Rattle.std.proofs.lemmas.Slice.{put_mid-paste}
use borrow.Rule.Slice.PartMut.{put_mid}
use Rattle.automata.specs.ReplyBody.{most_reply_states}
use Rattle.automata.proofs.MaskTableLaws.{no_bit}
use Rattle.relaxation.specs.Inner.Pairs.{pair_count, form_part, target_part}
use Rattle.relaxation.specs.Inner.PairSet.{mask_index, Member, Gains}
use Rattle.rounds.specs.Inner.Forgotten.{RowsForgotten}
use Rattle.relaxation.proofs.GainsLaws.{gains_as}

-- the first n masks of row x were cleared
pub record Cleared (x n : ℕ) (t u : List ℕ) : Type 0 where
  pub long : length u ≡ length t
  pub clear : (i : ℕ) → mask_index x 0 ≤ i → i < mask_index x n → get_or u i 0 ≡ 0
  pub apart : (i : ℕ) → (i < mask_index x 0) ⊎ (mask_index x n ≤ i) → get_or u i 0 ≡ get_or t i 0

pub cleared_none : (x : ℕ) (t : List ℕ) → Cleared x 0 t t
cleared_none x t = record { long = refl; clear = λ i l h. absurd (omega arith); apart = λ i h. refl }

pub cleared_more : {x n : ℕ} {t u : List ℕ} → Cleared x n t u → mask_index x n < length u → Cleared x (n + 1) t (set u (mask_index x n) 0)
cleared_more {x} {n} {t} {u} b h =
    record {
      long = length-set u (mask_index x n) 0 ∙ b.long;
      clear = λ i l k.
          elim (ℕ_discrete i (mask_index x n)) [
            | yes e ↦ rw e (get_or-set_same u (mask_index x n) 0 0 h)
            | no d ↦ get_or-set_other u (mask_index x n) i 0 0 d ∙ b.clear i l (omega arith)
          ];
      apart = λ i k.
          get_or-set_other u (mask_index x n) i 0 0 (λ e. ⊎_elim (λ l. omega arith) (λ l. omega arith) k) ∙
          b.apart i (⊎_elim inl (λ l. inr (omega arith)) k);
    }

-- zeros were written over the first masks of row x
cleared_by : (x at : ℕ) (t zs : List ℕ) → at ≡ mask_index x 0 → mask_index x (length zs) ≤ length t →
    ((i : ℕ) → i < length zs → get_or zs i 0 ≡ 0) → (n : ℕ) → n ≤ length zs → Cleared x n t (paste t at zs n)
cleared_by x at t zs e h none zero l = rw (← paste_none t at zs) (cleared_none x t)
cleared_by x at t zs e h none (suc n) l =
    let b = cleared_by x at t zs e h none n (omega arith) in
    let long : length (paste t at zs n) ≡ length t = length-paste t at zs n (omega arith) (omega arith) in
    let d : mask_index x n ≡ at + n = omega arith in
    let s : set (paste t at zs n) (mask_index x n) 0 ≡ paste t at zs (n + 1) =
    ap₂ (set (paste t at zs n)) d (sym (none n (omega arith))) ∙ paste_more t at zs n 0 (omega arith) (omega arith) in
    rw add-one at (rw s at (cleared_more b (omega arith)))

pub cleared : (x at k : ℕ) (t ys : List ℕ) → at ≡ mask_index x 0 → k ≡ most_reply_states → length ys ≡ k →
    mask_index x most_reply_states ≤ length t → ((i : ℕ) → i < length ys → get_or ys i 0 ≡ 0) →
    Cleared x most_reply_states t (put_mid at k t ys)
cleared x at k t ys e d l h none =
    rw (put_mid-paste at k t ys ys k refl refl (sym l)) (rw d (cleared_by x at t ys e (omega arith) none most_reply_states (omega arith)))

-- where the masks of two rows stand
in_row : (x z : ℕ) → z < pair_count → (mask_index x 0 ≤ mask_index x (form_part z)) ×
    (mask_index x (form_part z) < mask_index x most_reply_states)
in_row x z hz = (omega arith, omega arith)

out_of_row : (x y z : ℕ) → z < pair_count → ¬ (y ≡ x) →
    (mask_index y (form_part z) < mask_index x 0) ⊎ (mask_index x most_reply_states ≤ mask_index y (form_part z))
out_of_row x y z hz d = elim (dec_lt y x) [ yes l ↦ inl (omega arith) | no n ↦ inr (omega arith) ]

-- a row whose masks were all cleared is put aside
module _ {x : ℕ} {f f' i i' : List ℕ} (b : Cleared x most_reply_states f f') (g : Gains i i' (λ z y. (y ≡ x) × Member f x z)) where
  row_clear : (y z : ℕ) → z < pair_count → y ≡ x → ¬ Member f' y z
  row_clear y z hz e m =
      let at = in_row x z hz in
      no_bit (target_part z) (rw (e, b.clear (mask_index x (form_part z)) at.0 at.1) at m)

  pub forgotten : RowsForgotten (λ y. y ≡ x) f i f' i'
  forgotten =
      record {
        turned = gains_as g (λ z y hz hy (e, m). (e, rw e m)) (λ z y hz hy (e, m). (e, rw e at m));
        long = b.long;
        gone = λ y z hy hz e. row_clear y z hz e;
        only = λ y z hy hz m.
            elim (ℕ_discrete y x) [
              | yes e ↦ absurd (row_clear y z hz e m)
              | no d ↦ rw (b.apart (mask_index y (form_part z)) (out_of_row x y z hz d)) at m
            ];
        others = λ y z hy hz d m. rw (b.apart (mask_index y (form_part z)) (out_of_row x y z hz d)) m;
      }

-- the rows below n that are member
abbrev pub RowsBelow : List ℕ → ℕ → ℕ → Type 0
RowsBelow rows n x = (x < n) × Member rows 0 x
