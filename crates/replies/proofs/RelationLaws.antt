-- Laws of relations in 64 bits: rows, columns and their product, the identity, and what the loop that composes has put together.
use mathlib.Core.Path.{◌≡◌, refl, sym, ◌∙◌, ap}
use mathlib.Core.Bool.{Bool, true, false, ◌&&◌, beq, and-true, and-false, and-eq-true_iff, true≢false}
use mathlib.Core.Logic.{◌↔◌, ◌⊎◌, inl, inr, ⊎_elim}
use Prim.Native.Nat.{ℕ, zero, suc, ◌+◌, ◌*◌, ◌/◌, ◌%◌, ◌^◌, ◌<◌, ◌≤◌}
use native.Mathlib.Omega.{arith}
use native.Mathlib.Nat.{not-suc-le-zero, add-mul, mul_assoc, one-mul, zero-mul}
use native.Mathlib.Decide.{dec_lt}
use borrow.Author.Tests.{eq-eqb, ne_eqb, eqb-true}
use lib.Dec.{eqb}
use lib.Bits.{bit_and, bit_or, and_le_r}
use lib.ListN.{replicate}
use Rattle.words.proofs.Truth.{or_either, beq_same}
use Rattle.words.proofs.Table.{every, every_at}
use Rattle.automata.specs.Bits.{bit}
use Rattle.automata.specs.Decide.MaskBound.{bits_below}
use Rattle.automata.specs.ReplyBody.{most_reply_states}
use Rattle.automata.specs.Inner.FormState.{IsFormState}
use Rattle.replies.specs.Inner.Links.{pairs, pair_index}
use Rattle.replies.specs.Inner.Relation.{Related, row_masks, RowOf, first_column, ColumnOf, Gathered, Composing}
use Rattle.automata.proofs.BitLaws.{bit_zero, bit_of_or, bit_of_and, bit_beyond, low_or_high}
use Rattle.automata.proofs.ShiftLaws.{bit_of_shr, bit_mod}

pub bit_row : (m a : ℕ) → RowOf m a (m / 2 ^ (most_reply_states * a) % row_masks)
bit_row m a =
    let first = most_reply_states * a in
    record { exact = λ s h. bit_mod (m / 2 ^ first) most_reply_states s h ∙ bit_of_shr m first s; small = omega arith }

-- what a constant relation has at each pair is computed
module _ (m : ℕ) (has : ℕ → Bool) where
  abbrev agrees : ℕ → ℕ → Bool
  agrees k u = beq (bit m k) (has k)

  computed : every agrees 0 (replicate pairs 0) ≡ true → (k : ℕ) → k < pairs → bit m k ≡ has k
  computed e k h = beq_same (bit m k) (has k) (every_at agrees (replicate pairs 0) e k 0 h)

-- each state is related to itself alone
abbrev pub identity : ℕ
identity = 0x8040_2010_0804_0201

on_diagonal : (k : ℕ) → k < pairs → bit identity k ≡ eqb (k / most_reply_states) (k % most_reply_states)
unfolding bit
on_diagonal = computed identity (λ k. eqb (k / most_reply_states) (k % most_reply_states)) refl

pub related_self : (a b : ℕ) → IsFormState a → IsFormState b → Related identity a b ↔ (a ≡ b)
related_self a b ha hb =
    let i = pair_index a b in
    let d = on_diagonal i (omega arith) in
    let h : i / most_reply_states ≡ a = omega arith in
    let l : i % most_reply_states ≡ b = omega arith in
    (λ e. sym h ∙ eqb-true (i / most_reply_states) (i % most_reply_states) (sym d ∙ e) ∙ l, λ e. d ∙ eq-eqb _ _ (h ∙ e ∙ sym l))

in_first : (k : ℕ) → k < pairs → bit first_column k ≡ eqb (k % most_reply_states) 0
unfolding bit
in_first = computed first_column (λ k. eqb (k % most_reply_states) 0) refl

pub column_of : (m b : ℕ) → ColumnOf m b (bit_and (m / 2 ^ b) first_column)
column_of m b =
    record {
      exact = λ a h.
          let i = pair_index a 0 in
          let first : bit first_column i ≡ true = in_first i (omega arith) ∙ eq-eqb (i % most_reply_states) 0 (omega arith) in
          let place : b + i ≡ pair_index a b = omega arith in
          bit_of_and (m / 2 ^ b) first_column i ∙
          ap (λ x. bit (m / 2 ^ b) i && x) first ∙
          and-true (bit (m / 2 ^ b) i) ∙
          bit_of_shr m b i ∙
          ap (λ x. bit m x) place;
      none = λ a s ha hs h.
          let i = pair_index a s in
          let first : bit first_column i ≡ false = in_first i (omega arith) ∙ ne_eqb (i % most_reply_states) 0 (λ e. omega arith) in
          bit_of_and (m / 2 ^ b) first_column i ∙ ap (λ x. bit (m / 2 ^ b) i && x) first ∙ and-false (bit (m / 2 ^ b) i);
      small = and_le_r (m / 2 ^ b) first_column;
    }

-- without its first row, a relation has the others each one earlier
next_row : (m b t : ℕ) → bit m (pair_index (suc b) t) ≡ bit (m / row_masks) (pair_index b t)
next_row m b t =
    let place : pair_index (suc b) t ≡ most_reply_states + pair_index b t = omega arith in
    ap (λ x. bit m x) place ∙ sym (bit_of_shr m most_reply_states (pair_index b t))

-- a column times a row: the column's digits to the base row_masks are 0 or 1
module _ (row : ℕ) (small : row < row_masks) where
  digit_small : (d : ℕ) → d < 2 → d * row < row_masks
  digit_small d h =
      ⊎_elim (λ (e : d ≡ 0). rw (e, zero-mul row) (omega arith)) (λ (e : d ≡ 1). rw (e, one-mul row) small) (low_or_high d h)

  bit_digit : (d s : ℕ) → d < 2 → bit (d * row) s ≡ (bit d 0 && bit row s)
  unfolding bit
  bit_digit d s h =
      ⊎_elim (λ (e : d ≡ 0). rw (e, zero-mul row) (bit_zero s)) (λ (e : d ≡ 1). rw (e, one-mul row) refl) (low_or_high d h)

  -- the low digit of the product, and the others
  bytes : (col : ℕ) → col % row_masks < 2 → (col * row % row_masks ≡ col % row_masks * row) ×
      (col * row / row_masks ≡ col / row_masks * row)
  bytes col h =
      let high = col / row_masks in
      let low = col % row_masks in
      let split : col ≡ row_masks * high + low = omega arith in
      let e : col * row ≡ row_masks * (high * row) + low * row =
      ap (λ x. x * row) split ∙ add-mul (row_masks * high) low row ∙ ap (λ x. x + low * row) (mul_assoc row_masks high row) in
      apart (col * row) (high * row) (low * row) e (digit_small low h)
    where
      apart : (n x y : ℕ) → n ≡ row_masks * x + y → y < row_masks → (n % row_masks ≡ y) × (n / row_masks ≡ x)
      apart n x y e l = (omega arith, omega arith)

  abbrev Bytes : ℕ → ℕ → Type 0
  Bytes a col = (b s : ℕ) → b ≤ a → IsFormState s → 0 < s → bit col (pair_index b s) ≡ false

  low_byte : (a col : ℕ) → Bytes a col → col % row_masks < 2
  low_byte a col none =
      (bits_below (col % row_masks) 1).0
      (λ i l. elim (dec_lt i most_reply_states) [
        | yes h ↦
            let e : i ≡ pair_index 0 i = omega arith in
            bit_mod col most_reply_states i h ∙ ap (λ x. bit col x) e ∙ none 0 i (omega arith) h l
        | no n ↦ bit_beyond most_reply_states (col % row_masks) i (omega arith) (omega arith)
      ])

  pub product : (a col s : ℕ) → Bytes a col → IsFormState s → bit (col * row) (pair_index a s) ≡ (bit col (pair_index a 0) && bit row s)
  product zero col s none h =
      let low = low_byte zero col none in
      let here : pair_index zero s ≡ s = omega arith in
      ap (λ x. bit (col * row) x) here ∙
      sym (bit_mod (col * row) most_reply_states s h) ∙
      ap (λ x. bit x s) (bytes col low).0 ∙
      bit_digit (col % row_masks) s low ∙
      ap (λ x. x && bit row s) (bit_mod col most_reply_states 0 (omega arith))
  product (suc a) col s none h =
      next_row (col * row) a s ∙
      ap (λ x. bit x (pair_index a s)) (bytes col (low_byte (suc a) col none)).1 ∙
      product a (col / row_masks) s (λ b t l ht l'. sym (next_row col b t) ∙ none (suc b) t (omega arith) ht l') h ∙
      ap (λ x. x && bit row s) (sym (next_row col a 0))

-- a loop that gathers a relation, turn by turn
module _ {P : ℕ → ℕ → ℕ → Type 0} where
  pub gathered_none : Gathered P 0 0
  gathered_none =
      record { exact = λ a b ha hb. (λ e. absurd (true≢false (sym e ∙ bit_zero (pair_index a b))), λ w. absurd (not-suc-le-zero w.1)) }

  module _ {n m : ℕ} (g : Gathered P n m) where
    turned : {m' : ℕ} → ((a b : ℕ) → IsFormState a → IsFormState b → Related m' a b ↔ (Related m a b ⊎ P n a b)) → Gathered P (n + 1) m'
    turned step =
        record {
          exact = λ a b ha hb.
              let (to, from) = g.exact a b ha hb in
              let (fore, back) = step a b ha hb in (
                λ e. ⊎_elim (λ o. let (k, l, x) = to o in (k, omega arith, x)) (λ x. (n, omega arith, x)) (fore e),
                λ (k, l, x). elim (dec_lt k n) [
                  | yes h ↦ back (inl (from (k, h, x)))
                  | no h ↦ let e : k ≡ n = omega arith in back (inr (rw e at x))
                ],
              );
        }

    pub gathered_more : (y : ℕ) → ((a b : ℕ) → IsFormState a → IsFormState b → Related y a b ↔ P n a b) → Gathered P (n + 1) (bit_or m y)
    gathered_more y is =
        turned
        (λ a b ha hb.
        let (to, from) = or_either (bit m (pair_index a b)) (bit y (pair_index a b)) in
        let (fore, back) = is a b ha hb in
        rw (bit_of_or m y (pair_index a b)) (λ e. ⊎_elim inl (λ o. inr (fore o)) (to e), λ w. from (⊎_elim inl (λ x. inr (back x)) w)))

    pub gathered_skip : ((a b : ℕ) → P n a b → ⊥) → Gathered P (n + 1) m
    gathered_skip not = turned (λ a b ha hb. (inl, ⊎_elim (λ o. o) (λ x. absurd (not a b x))))

-- the turn of state n: the product of a column of x and a row of y
pub composed_more : (x y n m : ℕ) → Composing x y n m → (col row : ℕ) → IsFormState n → ColumnOf x n col → RowOf y n row →
    Composing x y (n + 1) (bit_or m (col * row))
composed_more x y n m k col row h c r =
    gathered_more k (col * row)
    (λ a b ha hb.
    let both : bit (col * row) (pair_index a b) ≡ (bit x (pair_index a n) && bit y (pair_index n b)) =
    product row r.small a col b (λ d s l hs z. c.none d s (omega arith) hs z) hb ∙
    ap (λ z. z && bit row b) (c.exact a ha) ∙
    ap (λ z. bit x (pair_index a n) && z) (r.exact b hb) in
    rw both (and-eq-true_iff (bit x (pair_index a n)) (bit y (pair_index n b))))
