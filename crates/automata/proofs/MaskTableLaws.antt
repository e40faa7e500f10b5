-- Laws of tables of masks: what a put, a loop of puts and loops of loops leave.
use mathlib.Core.Path.{◌≡◌, refl, sym, ◌∙◌, ap}
use mathlib.Core.Bool.{Bool, true, false, cond, false≢true}
use mathlib.Core.Logic.{◌↔◌, ◌⊎◌, inl, inr, ⊎_elim}
use mathlib.Core.List.{List}
use Prim.Native.Nat.{ℕ, zero, suc, ◌+◌, ◌<◌, ◌≤◌}
use native.Mathlib.Omega.{arith}
use native.Mathlib.Nat.{not-suc-le-zero}
use native.Mathlib.Numerals.{add-one}
use native.Mathlib.Decide.{ℕ_discrete, dec_lt}
use lib.Bits.{bit_or}
use lib.ListN.{length, get_or, length-set, replicate, length-replicate, get_or-replicate, get_or-eq_default}
use lib.Seq.{get_or-set_same, get_or-set_other, set_out, set-get_or}
use Rattle.words.proofs.Truth.{or_either}
use Rattle.automata.specs.Bits.{bit}
use Rattle.automata.specs.Inner.MaskTable.{Has, Empty, put, turns, Plan, turn_of, puts}
use Rattle.automata.proofs.BitLaws.{bit_of_or, bit_zero}

-- the bits of a union
pub bit_union : (m n s : ℕ) → (bit (bit_or m n) s ≡ true) ↔ ((bit m s ≡ true) ⊎ (bit n s ≡ true))
bit_union m n s = rw (bit_of_or m n s) (or_either (bit m s) (bit n s))

pub no_bit : (s : ℕ) → bit 0 s ≡ true → ⊥
no_bit s h = false≢true (sym (bit_zero s) ∙ h)

pub no_row : (t : List ℕ) → Empty t → (i s : ℕ) → Has t i s → ⊥
no_row t z i s h = no_bit s (rw (z i) at h)

pub zeros_empty : (n : ℕ) → Empty (replicate n 0)
zeros_empty n i =
    elim (dec_lt i n) [
      | yes l ↦ get_or-replicate {A = ℕ} n i 0 0 l
      | no g ↦
          let l : length (replicate {A = ℕ} n 0) ≤ i = omega (arith, length-replicate {A = ℕ} n 0) in
          get_or-eq_default {A = ℕ} (replicate n 0) 0 l
    ]

-- a set beyond the table is empty
pub has_below : (t : List ℕ) (i s : ℕ) → Has t i s → i < length t
has_below t i s h =
    elim (dec_lt i (length t)) [
      | yes l ↦ l
      | no g ↦
          let beyond : length t ≤ i = omega arith in
          absurd (no_bit s (rw (get_or-eq_default {A = ℕ} t 0 beyond) at h))
    ]

-- one put
module _ (t : List ℕ) (i m : ℕ) where
  pub put_within : (j s : ℕ) → Has t j s → Has (put t i m) j s
  put_within j s h =
      elim (ℕ_discrete j i) [
        | yes e ↦ elim (dec_lt i (length t)) [
          | yes l ↦ rw (e, get_or-set_same t i (bit_or (get_or t i 0) m) 0 l) ((bit_union (get_or t i 0) m s).1 (inl (rw e at h)))
          | no n ↦ rw (set_out t i (bit_or (get_or t i 0) m) (omega arith)) h
        ]
        | no n ↦ rw (get_or-set_other t i j (bit_or (get_or t i 0) m) 0 n) h
      ]

  pub put_has : (s : ℕ) → i < length t → bit m s ≡ true → Has (put t i m) i s
  put_has s l h = rw (get_or-set_same t i (bit_or (get_or t i 0) m) 0 l) ((bit_union (get_or t i 0) m s).1 (inr h))

  pub put_same : bit_or (get_or t i 0) m ≡ get_or t i 0 → put t i m ≡ t
  put_same e = rw e (set-get_or t i 0)

  pub put_either : (j s : ℕ) → Has (put t i m) j s → Has t j s ⊎ ((i ≡ j) × (bit m s ≡ true))
  put_either j s h =
      elim (ℕ_discrete j i) [
        | yes e ↦ elim (dec_lt i (length t)) [
          | yes l ↦
              ⊎_elim (λ x. inl (rw e x)) (λ x. inr (sym e, x))
              ((bit_union (get_or t i 0) m s).0 (rw (e, get_or-set_same t i (bit_or (get_or t i 0) m) 0 l) at h))
          | no n ↦ inl (rw (set_out t i (bit_or (get_or t i 0) m) (omega arith)) at h)
        ]
        | no n ↦ inl (rw (get_or-set_other t i j (bit_or (get_or t i 0) m) 0 n) at h)
      ]

-- What a change adds to any table: nothing is lost, and what is new is S.
pub record Adds (f : List ℕ → List ℕ) (S : ℕ → ℕ → Type 0) : Type 0 where
  pub long : (t : List ℕ) → length (f t) ≡ length t
  pub within : (t : List ℕ) (i s : ℕ) → Has t i s → Has (f t) i s
  pub either : (t : List ℕ) (i s : ℕ) → Has (f t) i s → Has t i s ⊎ S i s
  pub has_it : (t : List ℕ) (i s : ℕ) → i < length t → S i s → Has (f t) i s

-- a change that is made only where a test says so
pub when_adds : (b : Bool) (f : List ℕ → List ℕ) (S : ℕ → ℕ → Type 0) → Adds f S → Adds (λ t. cond b (f t) t) (λ i s. (b ≡ true) × S i s)
when_adds true f S h =
    record {
      long = h.long;
      within = h.within;
      either = λ t i s x. ⊎_elim inl (λ y. inr (refl, y)) (h.either t i s x);
      has_it = λ t i s l x. h.has_it t i s l x.1;
    }
when_adds false f S h =
    record { long = λ t. refl; within = λ t i s x. x; either = λ t i s x. inl x; has_it = λ t i s l x. absurd (false≢true x.0) }

-- one of the first n turns adds it
pub record Turned (S : ℕ → ℕ → ℕ → Type 0) (n i s : ℕ) : Type 0 where
  pub turn : ℕ
  pub below : turn < n
  pub adds : S turn i s

-- loops of loops
module _ (f : ℕ → List ℕ → List ℕ) where
  pub turns_none : (t : List ℕ) → t ≡ turns f 0 t
  unfolding turns
  turns_none t = refl

  pub turns_more : (t : List ℕ) (k : ℕ) (u v : List ℕ) → u ≡ turns f k t → v ≡ f k u → v ≡ turns f (k + 1) t
  unfolding turns
  turns_more t k u v e h = rw (add-one k) (h ∙ ap (f k) e)

  -- turns that change nothing
  pub turns_idle : (n : ℕ) (t : List ℕ) → ((k : ℕ) → k < n → (u : List ℕ) → f k u ≡ u) → turns f n t ≡ t
  unfolding turns
  turns_idle zero t h = refl
  turns_idle (suc k) t h = h k (omega arith) (turns f k t) ∙ turns_idle k t (λ j l. h j (omega arith))

  module _ (S : ℕ → ℕ → ℕ → Type 0) (h : (k : ℕ) → Adds (f k) (S k)) where
    long : (n : ℕ) (t : List ℕ) → length (turns f n t) ≡ length t
    unfolding turns
    long zero t = refl
    long (suc k) t = (h k).long (turns f k t) ∙ long k t

    within : (n : ℕ) (t : List ℕ) (i s : ℕ) → Has t i s → Has (turns f n t) i s
    unfolding turns
    within zero t i s x = x
    within (suc k) t i s x = (h k).within (turns f k t) i s (within k t i s x)

    either : (n : ℕ) (t : List ℕ) (i s : ℕ) → Has (turns f n t) i s → Has t i s ⊎ Turned S n i s
    unfolding turns
    either zero t i s x = inl x
    either (suc k) t i s x =
        ⊎_elim
        (λ y. ⊎_elim inl (λ z. let l = z.below in inr (record { turn = z.turn; below = omega arith; adds = z.adds })) (either k t i s y))
        (λ y. inr (record { turn = k; below = omega arith; adds = y }))
        ((h k).either (turns f k t) i s x)

    has_it : (n : ℕ) (t : List ℕ) (i s : ℕ) → i < length t → Turned S n i s → Has (turns f n t) i s
    unfolding turns
    has_it zero t i s l x = absurd (not-suc-le-zero x.below)
    has_it (suc k) t i s l x =
        elim (ℕ_discrete x.turn k) [
          | yes e ↦ (h k).has_it (turns f k t) i s (rw (long k t) l) (rw e at x.adds)
          | no n ↦
              let b = x.below in
              (h k).within (turns f k t) i s (has_it k t i s l (record { turn = x.turn; below = omega arith; adds = x.adds }))
        ]

    pub turns_add : (n : ℕ) → Adds (turns f n) (Turned S n)
    turns_add n = record { long = long n; within = within n; either = either n; has_it = has_it n }

-- what turn k of a plan puts
pub record PutAt (P : Plan) (k i s : ℕ) : Type 0 where
  pub puts_it : P.when k ≡ true
  pub there : P.at k ≡ i
  pub has_it : bit (P.mask k) s ≡ true

-- bit s is put at index i in one of the first n turns
abbrev pub PlanPut : Plan → ℕ → ℕ → ℕ → Type 0
PlanPut P n = Turned (PutAt P) n

put_adds : (i m : ℕ) → Adds (λ t. put t i m) (λ j s. (i ≡ j) × (bit m s ≡ true))
put_adds i m =
    record {
      long = λ t. length-set t i _;
      within = λ t. put_within t i m;
      either = λ t. put_either t i m;
      has_it = λ t j s l x. rw (← x.0) (put_has t i m s (rw x.0 l) x.1);
    }

turn_adds : (P : Plan) (k : ℕ) → Adds (turn_of P k) (PutAt P k)
turn_adds P k =
    let a = when_adds (P.when k) (λ t. put t (P.at k) (P.mask k)) _ (put_adds (P.at k) (P.mask k)) in
    record {
      long = a.long;
      within = a.within;
      either = λ t i s x. ⊎_elim inl (λ (w, (e, h)). inr (record { puts_it = w; there = e; has_it = h })) (a.either t i s x);
      has_it = λ t i s l x. a.has_it t i s l (x.puts_it, (x.there, x.has_it));
    }

pub puts_adds : (P : Plan) (n : ℕ) → Adds (puts P n) (PlanPut P n)
unfolding puts
puts_adds P n = turns_add (turn_of P) (PutAt P) (turn_adds P) n

module _ (P : Plan) (t : List ℕ) where
  pub puts_none : t ≡ puts P 0 t
  unfolding puts
  puts_none = turns_none (turn_of P) t

  -- a turn that puts, and one that does not
  module _ (k : ℕ) (u : List ℕ) (e : u ≡ puts P k t) where
    pub puts_more : {m : ℕ} → P.when k ≡ true → m ≡ P.mask k → put u (P.at k) m ≡ puts P (k + 1) t
    unfolding puts
    puts_more {m} h x = turns_more (turn_of P) t k u (put u (P.at k) m) e (rw (h, x) refl)

    pub puts_skip : P.when k ≡ false → u ≡ puts P (k + 1) t
    unfolding puts
    puts_skip h = turns_more (turn_of P) t k u u e (rw h refl)

  module _ (n : ℕ) where
    pub length_puts : length (puts P n t) ≡ length t
    length_puts = (puts_adds P n).long t

    pub puts_long : {u : List ℕ} → u ≡ puts P n t → length u ≡ length t
    puts_long e = ap length e ∙ length_puts

    pub puts_within : (i s : ℕ) → Has t i s → Has (puts P n t) i s
    puts_within = (puts_adds P n).within t

    -- what the table has afterwards it had before, or it was put there
    pub puts_either : (i s : ℕ) → Has (puts P n t) i s → Has t i s ⊎ PlanPut P n i s
    puts_either = (puts_adds P n).either t

    -- what is put within the table is there
    pub puts_has : (i s : ℕ) → i < length t → PlanPut P n i s → Has (puts P n t) i s
    puts_has = (puts_adds P n).has_it t

    -- turns that put nothing
    pub puts_idle : ((k : ℕ) → k < n → P.when k ≡ false) → puts P n t ≡ t
    unfolding puts
    puts_idle h = turns_idle (turn_of P) n t (λ k l u. rw (h k l) refl)

  -- an entry to which nothing is put keeps its mask
  pub puts_apart : (n i : ℕ) → ((k : ℕ) → k < n → P.at k ≡ i → ⊥) → get_or (puts P n t) i 0 ≡ get_or t i 0
  unfolding puts turns
  puts_apart zero i h = refl
  puts_apart (suc k) i h =
      let before = puts_apart k i (λ j l. h j (omega arith)) in
      elim (P.when k) as (λ b. get_or (cond b (put (puts P k t) (P.at k) (P.mask k)) (puts P k t)) i 0 ≡ get_or t i 0) [
        | true ↦ get_or-set_other (puts P k t) (P.at k) i _ 0 (λ e. h k (omega arith) (sym e)) ∙ before
        | false ↦ before
      ]
