-- The effects of reply forms are determined: for a closed target and any forms there is exactly one table of numbers that has them.
use mathlib.Core.Path.{◌≡◌, refl, sym, ◌∙◌, ap, subst}
use mathlib.Core.Bool.{Bool, true, false, cond}
use mathlib.Core.Logic.{◌⊎◌, inl, inr, ⊎_elim}
use Prim.Native.Nat.{ℕ, zero, suc, ◌*◌, ◌/◌, ◌%◌, ◌<◌, ◌≤◌}
use native.Mathlib.Omega.{arith}
use native.Mathlib.Decide.{dec_lt}
use native.Mathlib.Nat.{zero-add}
use lib.ListN.{get_or, get_or-eq_default}
use lib.Seq.{ext_get_or}
use Rattle.words.specs.Exactly.{Exactly}
use Rattle.words.specs.Lists.{tabulated}
use Rattle.words.specs.Tag.{codes}
use Rattle.words.proofs.ListLaws.{tabulated_at}
use Rattle.words.proofs.Truth.{true_or_false}
use Rattle.automata.specs.Target.{Target, Closed}
use Rattle.automata.specs.TargetBody.{most_states}
use Rattle.automata.specs.Reply.{Form}
use Rattle.effects.specs.Effect.{most_counted}
use Rattle.effects.specs.Effects.{Told, told, form_numbers, number_count, number_index, long_number, shortest_at, EffectsOf, Sized}
use Rattle.effects.specs.Decide.Least.{tell}
use Rattle.effects.specs.Inner.Numbers.{numbers_of}
use Rattle.effects.specs.declared.Effects.{Effects}
use Rattle.effects.specs.declared.Shortest.{Shortest}
use Rattle.effects.specs.declared.Shortest.TheVariants.{Unreached, Tags, Longer}
use Rattle.effects.proofs.SetLaws.{tabulated_long}
use Rattle.effects.proofs.TellLaws.{told_unique, least_even}
use Rattle.effects.proofs.ToldLaws.{told_counted, told_long}

-- the number that stands for what is told
abbrev number_for : Shortest → ℕ
number_for Unreached = 0
number_for (Tags n) = suc (n / 2)
number_for Longer = long_number

-- of numbers that are not too large, no two tell the same
number_told : (a : ℕ) → a ≤ long_number → number_for (told a) ≡ a
unfolding told
number_told zero h = refl
number_told (suc k) h =
    elim (dec_lt most_counted (2 * k)) [
      | yes l ↦ ap number_for (told_long k l) ∙ omega arith
      | no m ↦ ap number_for (told_counted k (omega arith)) ∙ omega arith
    ]

told_same : (a b : ℕ) → a ≤ long_number → b ≤ long_number → told a ≡ told b → a ≡ b
told_same a b ha hb e = sym (number_told a ha) ∙ ap number_for e ∙ number_told b hb

-- the number of what is told rightly tells it
told_number : (A : Target) (F : Form) (q s : ℕ) (v : Shortest) → Told A F q s v → told (number_for v) ≡ v
unfolding told
told_number A F q s Unreached t = refl
told_number A F q s (Tags n) (h, l) =
    let (k, e) = least_even A F q s n l in
    let half : n / 2 ≡ k = omega arith in
    ap (λ x. told (suc x)) half ∙ told_counted k (omega arith) ∙ ap Tags (sym e)
told_number A F q s Longer t = refl

number_low : (A : Target) (F : Form) (q s : ℕ) (v : Shortest) → Told A F q s v → number_for v ≤ long_number
number_low A F q s Unreached t = omega arith
number_low A F q s (Tags n) (h, l) = omega arith
number_low A F q s Longer t = omega arith

-- a place of the table is that of one code and two states
abbrev code_on : ℕ → ℕ
code_on i = i / form_numbers

abbrev from_on_at : ℕ → ℕ
from_on_at i = i / most_states % most_states

abbrev to_on : ℕ → ℕ
to_on i = i % most_states

place_of : (i : ℕ) → number_index (code_on i) (from_on_at i) (to_on i) ≡ i
place_of i = omega arith

module _ (c q s : ℕ) (hq : q < most_states) (hs : s < most_states) where
  code_at : code_on (number_index c q s) ≡ c
  code_at = omega arith

  from_at : from_on_at (number_index c q s) ≡ q
  from_at = omega arith

  to_at : to_on (number_index c q s) ≡ s
  to_at = omega arith

module _ (A : Target) (has : ℕ → Bool) (forms : ℕ → Form) where
  module _ (E E' : Effects) (e : EffectsOf A has forms E) (e' : EffectsOf A has forms E') where
    -- what can be asked of the two is the same, at every code and any two states that a target may have
    pub effects_agree : (c q s : ℕ) → q < most_states → s < most_states → shortest_at E c q s ≡ shortest_at E' c q s
    effects_agree c q s hq hs =
        let apart : (has c ≡ false) ⊎ (A.states ≤ q) → shortest_at E c q s ≡ shortest_at E' c q s =
        λ o. e.nothing c q s hq hs o ∙ sym (e'.nothing c q s hq hs o) in
        ⊎_elim
        (λ t. elim (dec_lt q A.states) [
          | yes l ↦ told_unique A (forms c) q s _ _ (e.exact c q s t l hs) (e'.exact c q s t l hs)
          | no n ↦ apart (inr (omega arith))
        ])
        (λ f. apart (inl f)) (true_or_false (has c))

    told_agree : (i : ℕ) → told (get_or E.numbers i 0) ≡ told (get_or E'.numbers i 0)
    unfolding shortest_at
    told_agree i = rw (place_of i) at (effects_agree (code_on i) (from_on_at i) (to_on i) (omega arith) (omega arith))

    -- so they are the same, since every place of the table is the place of such a number
    pub effects_same : E ≡ E'
    effects_same =
        ap numbers_of
        (ext_get_or 0 E.numbers E'.numbers (e.sized ∙ sym e'.sized)
        (λ i h. told_same _ _ (e.numbered i) (e'.numbered i) (told_agree i)))

  module _ (closed : Closed A) where
    -- a table that has them, by what is told of each two states
    abbrev number_if : (c q s : ℕ) → Dec (q < A.states) → ℕ
    number_if c q s (yes h) = number_for (tell A (forms c) q s closed h).0
    number_if c q s (no m) = 0

    if_told : (c q s : ℕ) (d : Dec (q < A.states)) → q < A.states → Told A (forms c) q s (told (number_if c q s d))
    if_told c q s (yes h) l =
        let (v, t) = tell A (forms c) q s closed h in
        subst (Told A (forms c) q s) (sym (told_number A (forms c) q s v t)) t
    if_told c q s (no m) l = absurd (m l)

    if_none : (c q s : ℕ) (d : Dec (q < A.states)) → A.states ≤ q → number_if c q s d ≡ 0
    if_none c q s (yes h) l = absurd (omega arith)
    if_none c q s (no m) l = refl

    if_low : (c q s : ℕ) (d : Dec (q < A.states)) → number_if c q s d ≤ long_number
    if_low c q s (yes h) = let (v, t) = tell A (forms c) q s closed h in number_low A (forms c) q s v t
    if_low c q s (no m) = omega arith

    number_at : ℕ → ℕ → ℕ → ℕ
    number_at c q s = cond (has c) (number_if c q s (dec_lt q A.states)) 0

    at_told : (c q s : ℕ) → has c ≡ true → q < A.states → Told A (forms c) q s (told (number_at c q s))
    unfolding number_at
    at_told c q s t h = rw t (if_told c q s (dec_lt q A.states) h)

    at_none : (c q s : ℕ) → (has c ≡ false) ⊎ (A.states ≤ q) → number_at c q s ≡ 0
    unfolding number_at
    at_none c q s o =
        ⊎_elim (λ t. ⊎_elim (λ f. rw f refl) (λ l. rw t (if_none c q s (dec_lt q A.states) l)) o) (λ f. rw f refl) (true_or_false (has c))

    at_low : (c q s : ℕ) → number_at c q s ≤ long_number
    unfolding number_at
    at_low c q s =
        ⊎_elim (λ t. rw t (if_low c q s (dec_lt q A.states))) (λ f. rw f (omega arith)) (true_or_false (has c))

    abbrev number_indexed : ℕ → ℕ
    number_indexed i = number_at (code_on i) (from_on_at i) (to_on i)

    abbrev table : Effects
    table = numbers_of (tabulated number_indexed 0 number_count)

    table_long : Sized table
    table_long = tabulated_long number_indexed 0 number_count

    table_beyond : (i : ℕ) → number_count ≤ i → get_or table.numbers i 0 ≡ 0
    table_beyond i l = get_or-eq_default table.numbers 0 {n = i} (omega (arith, table_long))

    table_number : (i : ℕ) → i < number_count → get_or table.numbers i 0 ≡ number_indexed i
    table_number i l = tabulated_at number_indexed 0 number_count i 0 l ∙ ap number_indexed (zero-add i)

    table_at : (c q s : ℕ) → c < codes → q < most_states → s < most_states → get_or table.numbers (number_index c q s) 0 ≡ number_at c q s
    table_at c q s hc hq hs =
        table_number (number_index c q s) (omega arith) ∙
        λ j. number_at (code_at c q s hq hs j) (from_at c q s hq hs j) (to_at c q s hq hs j)

    table_low : (i : ℕ) → get_or table.numbers i 0 ≤ long_number
    table_low i =
        elim (dec_lt i number_count) [
          | yes l ↦ rw (table_number i l) (at_low (code_on i) (from_on_at i) (to_on i))
          | no m ↦ rw (table_beyond i (omega arith)) (omega arith)
        ]

    module _ (few : A.states ≤ most_states) (coded : (c : ℕ) → has c ≡ true → c < codes) where
      table_has : EffectsOf A has forms table
      unfolding shortest_at told
      table_has =
          record {
            exact = λ c q s t h hs. rw (table_at c q s (coded c t) (omega arith) hs) (at_told c q s t h);
            nothing = λ c q s hq hs o. elim (dec_lt c codes) [
              | yes l ↦ ap told (table_at c q s l hq hs ∙ at_none c q s o)
              | no n ↦ ap told (table_beyond (number_index c q s) (omega arith))
            ];
            sized = table_long;
            numbered = table_low;
          }

      pub effects_exactly : Exactly (EffectsOf A has forms)
      effects_exactly = record { value = table; right = table_has; only = λ E e. effects_same E table e table_has }
