-- Laws of the effects for their callers: the forms of one code after the other, what the sets have, and where there is an effect at all.
use mathlib.Core.Path.{◌≡◌, refl, sym, ◌∙◌, ap}
use mathlib.Core.Bool.{Bool, true, false, false≢true}
use mathlib.Core.Logic.{◌↔◌, ◌⊎◌, inl, inr, ⊎_elim}
use mathlib.Core.List.{List, Memᴰ}
use Prim.Native.Nat.{ℕ, zero, suc, ◌+◌, ◌-◌, ◌*◌, ◌/◌, ◌%◌, ◌<◌, ◌≤◌}
use native.Mathlib.Omega.{arith}
use native.Mathlib.Decide.{ℕ_discrete, dec_lt}
use native.Mathlib.Nat.{not-suc-le-zero}
use native.Mathlib.Numerals.{add-one}
use lib.ListN.{length, get_or, length-replicate}
use borrow.Rule.Slice.PartMut.{put_mid}
use Rattle.std.proofs.Common.{rules}
use Rattle.std.proofs.lemmas.List.{places}
use Rattle.words.specs.Tag.{Word, IsCode}
use Rattle.words.proofs.ListLaws.{tabulated_at, picked_passes, in_picked}
use Rattle.words.proofs.Truth.{not_true, told_yes, told_no}
use Rattle.automata.specs.Bits.{bit}
use Rattle.automata.specs.Decide.MaskBound.{bits_below}
use Rattle.automata.specs.Target.{Target, Closed}
use Rattle.automata.specs.TargetBody.{most_states}
use Rattle.automata.specs.Reply.{Form, Lawful}
use Rattle.automata.proofs.MaskTableLaws.{no_bit, zeros_empty}
use Rattle.effects.specs.Effect.{Effect}
use Rattle.effects.specs.Effects.{Told, told, form_numbers, number_count, Sized, number_index, long_number, shortest_at, EffectsOf}
use Rattle.effects.specs.Effects.{no_effects}
use Rattle.effects.specs.Inner.Sets.{reached, mask_below, effect_at, set_count, sets_of}
use Rattle.effects.specs.Inner.EffectForest.{effect_below, some_effect}
use Rattle.effects.specs.Inner.Lent.{set_in, results, LentOf}
use Rattle.effects.specs.Inner.Numbers.{numbers_of, NumbersPut}
use Rattle.effects.specs.Inner.WithForm.{WithForm}
use Rattle.effects.specs.declared.Effects.{Effects}
use Rattle.effects.specs.declared.Shortest.{Shortest}
use Rattle.effects.specs.declared.Shortest.TheVariants.{Unreached, Tags, Longer}
use Rattle.effects.proofs.Collected.{Collected, collected_none, collected_carry}
use Rattle.effects.proofs.SetLaws.{tabulated_long}

-- the numbers of one code stand apart from those of every other
apart_place : (c d q s : ℕ) → (d ≡ c → ⊥) → q < most_states → s < most_states →
    (number_index d q s < form_numbers * c) ⊎ (form_numbers * c + form_numbers ≤ number_index d q s)
apart_place c d q s n hq hs = elim (dec_lt d c) [ yes l ↦ inl (omega arith) | no m ↦ inr (omega arith) ]

-- a part of a list was written: what stands below it, in it, and beyond it
module _ (a k : ℕ) (xs ys : List ℕ) (h : a + k ≤ length xs) (l : length ys ≡ k) where
  below_part : (i : ℕ) → i < a → get_or (put_mid a k xs ys) i 0 ≡ get_or xs i 0
  below_part i m = search (rules, places)

  in_part : (j : ℕ) → j < k → get_or (put_mid a k xs ys) (a + j) 0 ≡ get_or ys j 0
  in_part j m = search (rules, places)

  beyond_part : (i : ℕ) → a + k ≤ i → get_or (put_mid a k xs ys) i 0 ≡ get_or xs i 0
  beyond_part i m = search (rules, places)

  same_long : length (put_mid a k xs ys) ≡ length xs
  same_long = search (rules, places)

-- the numbers of a form, written in the place of a code, are its effects
pub put_form : (A : Target) (F : Form) (c k : ℕ) (old part : List ℕ) → A.states ≤ most_states → k ≡ form_numbers →
    form_numbers * c + k ≤ length old → length part ≡ k → NumbersPut A F part →
    WithForm A F c (numbers_of old) (numbers_of (put_mid (form_numbers * c) k old part))
unfolding shortest_at told
put_form A F c k old part few e h l p =
    let first = form_numbers * c in
    let all = put_mid first k old part in
    let here : (q s : ℕ) → q < most_states → s < most_states → get_or all (number_index c q s) 0 ≡ get_or part (most_states * q + s) 0 =
    λ q s hq hs. in_part first k old part h l (most_states * q + s) (omega arith) in
    let below = below_part first k old part h l in
    let beyond = beyond_part first k old part h l in
    record {
      exact = λ q s hq hs. rw (here q s (omega arith) hs) (p.exact q s hq hs);
      beyond = λ q s b hq hs. ap told (here q s hq hs ∙ p.beyond q s b hq hs);
      apart = λ d q s n hq hs.
          let i = number_index d q s in
          ap told (⊎_elim (λ x. below i x) (λ x. beyond i (omega arith)) (apart_place c d q s n hq hs));
      sized = λ s. same_long first k old part h l ∙ s;
      numbered = λ g i. elim (dec_lt i first) [
        | yes m ↦ rw (below i m) (g i)
        | no m ↦ elim (dec_lt i (first + k)) [
          | yes n ↦
              let j = i - first in
              let there : first + j ≡ i = omega arith in
              rw (← ap (λ x. get_or all x 0) there, in_part first k old part h l j (omega arith)) (p.numbered j (omega arith))
          | no n ↦ rw (beyond i (omega arith)) (g i)
        ]
      ];
    }

-- the effects of the codes below n: those of the others are not there yet
pub record EffectsBelow (A : Target) (has : ℕ → Bool) (forms : ℕ → Form) (n : ℕ) (E : Effects) : Type 0 where
  pub exact : (c q s : ℕ) → c < n → has c ≡ true → q < A.states → s < most_states → Told A (forms c) q s (shortest_at E c q s)
  pub nothing : (c q s : ℕ) → q < most_states → s < most_states → (n ≤ c) ⊎ ((has c ≡ false) ⊎ (A.states ≤ q)) →
      shortest_at E c q s ≡ Unreached
  pub sized : Sized E
  pub numbered : (i : ℕ) → get_or E.numbers i 0 ≤ long_number

module _ (A : Target) (has : ℕ → Bool) (forms : ℕ → Form) where
  pub effects_none : EffectsBelow A has forms 0 no_effects
  unfolding no_effects shortest_at told
  effects_none =
      record {
        exact = λ c q s l. absurd (not-suc-le-zero l);
        nothing = λ c q s hq hs o. ap told (zeros_empty number_count (number_index c q s));
        sized = length-replicate {A = ℕ} number_count 0;
        numbered = λ i. rw (zeros_empty number_count i) (omega arith);
      }

  module _ (n : ℕ) (E : Effects) (e : EffectsBelow A has forms n E) where
    -- a code that has no form
    pub effects_skip : has n ≡ false → EffectsBelow A has forms (n + 1) E
    effects_skip f =
        record {
          exact = λ c q s l t. elim (dec_lt c n) [
            | yes m ↦ e.exact c q s m t
            | no m ↦ let x : c ≡ n = omega arith in absurd (false≢true (sym (rw x f) ∙ t))
          ];
          nothing = λ c q s hq hs o. e.nothing c q s hq hs (⊎_elim (λ l. inl (omega arith)) inr o);
          sized = e.sized;
          numbered = e.numbered;
        }

    -- a code that has one
    pub effects_more : A.states ≤ most_states → (E' : Effects) → has n ≡ true → WithForm A (forms n) n E E' →
        EffectsBelow A has forms (n + 1) E'
    effects_more few E' t j =
        record {
          exact = λ c q s l u h k. elim (ℕ_discrete c n) [
            | yes x ↦ rw x (j.exact q s h k)
            | no d ↦ rw (j.apart c q s d (omega arith) k) (e.exact c q s (omega arith) u h k)
          ];
          nothing = λ c q s hq hs o. elim (ℕ_discrete c n) [
            | yes x ↦
                ⊎_elim (λ l. absurd (omega arith))
                (⊎_elim (λ f. absurd (false≢true (sym (rw x at f) ∙ t))) (λ b. rw x (j.beyond q s b hq hs))) o
            | no d ↦ j.apart c q s d hq hs ∙ e.nothing c q s hq hs (⊎_elim (λ l. inl (omega arith)) inr o)
          ];
          sized = j.sized e.sized;
          numbered = j.numbered e.numbered;
        }

  -- every code was asked
  pub effects_all : (n : ℕ) (E : Effects) → ((c : ℕ) → has c ≡ true → c < n) → EffectsBelow A has forms n E → EffectsOf A has forms E
  effects_all n E few e =
      record {
        exact = λ c q s t. e.exact c q s (few c t) t;
        nothing = λ c q s hq hs o. e.nothing c q s hq hs (inr o);
        sized = e.sized;
        numbered = e.numbered;
      }

-- what is told of a state says whether it is reached
reached_told : (A : Target) (F : Form) (q s : ℕ) (v : Shortest) → Told A F q s v → (reached v ≡ true) ↔ Effect A F q s
reached_told A F q s Unreached t = told_no t
reached_told A F q s (Tags n) t = told_yes t.1.one
reached_told A F q s Longer t = told_yes t.one

-- the mask of the numbers below n that pass
mask_below_lem : (p : ℕ → Bool) (n : ℕ) → Collected p n (mask_below p n)
unfolding mask_below
mask_below_lem p zero = collected_none p
mask_below_lem p (suc n) = rw (← add-one n) (collected_carry p n (mask_below p n) (mask_below_lem p n) (p n) refl)

set_collected : (E : Effects) (c q : ℕ) → Collected (λ s. reached (shortest_at E c q s)) most_states (effect_at E c q)
unfolding effect_at
set_collected E c q = mask_below_lem (λ s. reached (shortest_at E c q s)) most_states

module _ (A : Target) (has : ℕ → Bool) (forms : ℕ → Form) (E : Effects) (e : EffectsOf A has forms E) (c q : ℕ) (t : has c ≡ true)
    (h : q < A.states) where
  abbrev set : ℕ
  set = effect_at E c q

  -- a set has the effect, of those states that it can have
  pub bit_effect : (s : ℕ) → s < most_states → (bit set s ≡ true) ↔ Effect A (forms c) q s
  bit_effect s k = rw ((set_collected E c q).below s k) (reached_told A (forms c) q s (shortest_at E c q s) (e.exact c q s t h k))

  module _ (closed : Closed A) (few : A.states ≤ most_states) where
    -- all states of a closed target are such
    pub bit_any : (s : ℕ) → (bit set s ≡ true) ↔ Effect A (forms c) q s
    bit_any s =
        elim (dec_lt s most_states) [
          | yes k ↦ bit_effect s k
          | no m ↦ (
            λ b. absurd (false≢true (sym ((set_collected E c q).beyond s (omega arith)) ∙ b)),
            λ x. let below = effect_below A (forms c) closed q s h x in absurd (omega arith),
          )
        ]

    -- a set is empty exactly when its form has no lawful reply
    pub no_reply_at : (set ≡ 0) ↔ (((w : Word) × Lawful (forms c) w) → ⊥)
    no_reply_at = (
      λ z l. let (s, x) = (some_effect A (forms c) q).1 l in no_bit s (rw z at ((bit_any s).1 x)),
      λ none.
          let empty : (s : ℕ) → bit set s ≡ false =
          λ s. not_true (bit set s) (λ x. none ((some_effect A (forms c) q).0 (s, (bit_any s).0 x))) in
          let l = (bits_below set 0).0 (λ s _. empty s) in
          omega arith,
    )

-- as many sets as there are places
abbrev set_indexed : Effects → ℕ → ℕ
set_indexed E i = effect_at E (i / most_states) (i % most_states)

sets_long : (E : Effects) → length (sets_of E) ≡ set_count
unfolding sets_of
sets_long E = tabulated_long (set_indexed E) 0 set_count

-- each set stands at its place
set_in_lem : (E : Effects) (c q : ℕ) → IsCode c → q < most_states → set_in (sets_of E) c q ≡ effect_at E c q
unfolding set_in sets_of
set_in_lem E c q hc h =
    let i = most_states * c + q in
    let ec : (0 + i) / most_states ≡ c = omega arith in
    let eq : (0 + i) % most_states ≡ q = omega arith in
    tabulated_at (set_indexed E) 0 set_count i 0 (omega arith) ∙ λ j. effect_at E (ec j) (eq j)

module _ (A : Target) (has : ℕ → Bool) (forms : ℕ → Form) (sets : List ℕ) (l : LentOf A has forms sets) where
  -- sets that are lent are all there
  pub lent_long : length sets ≡ set_count
  lent_long = ap length l.lent ∙ sets_long l.effects

  module _ (c q : ℕ) (hc : IsCode c) (t : has c ≡ true) (h : q < A.states) (closed : Closed A) (few : A.states ≤ most_states) where
    lent_bit : (s : ℕ) → (bit (set_in sets c q) s ≡ true) ↔ Effect A (forms c) q s
    lent_bit s =
        rw (l.lent, set_in_lem l.effects c q hc (omega arith)) (bit_any A has forms l.effects l.exact c q t h closed few s)

    -- the results are the effect, no more and no less
    pub results_exact : (s : ℕ) → Memᴰ s (results sets c q) ↔ Effect A (forms c) q s
    unfolding results
    results_exact s = (
      λ m. (lent_bit s).0 (picked_passes (bit (set_in sets c q)) 0 most_states m).0,
      λ x. let below = effect_below A (forms c) closed q s h x in
          in_picked (bit (set_in sets c q)) 0 most_states (omega arith) (omega arith) ((lent_bit s).1 x),
    )
