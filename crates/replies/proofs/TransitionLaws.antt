-- Laws of the relations of a form's rules: all rules together give the form's transitions, and those compiled before stay.
use mathlib.Core.Path.{◌≡◌, refl, sym, ◌∙◌, ap}
use mathlib.Core.Logic.Iff
use mathlib.Core.Logic.{◌↔◌, ◌⊎◌, inl, inr, ⊎_elim}
use mathlib.Core.List.{List}
use Prim.Native.Nat.{ℕ, ◌+◌, ◌-◌, ◌<◌, ◌≤◌}
use native.Mathlib.Nat.{zero-add}
use native.Mathlib.Omega.{arith}
use native.Mathlib.Decide.{dec_lt}
use lib.Bits.{bit_or}
use lib.ListN.{length, get_or, replicate, drop, length-drop}
use lib.Seq.{take_all}
use borrow.Rule.Slice.PartMut.{mid_of, put_mid, same_len_mid}
use Rattle.std.proofs.Common.{rules}
use Rattle.std.proofs.lemmas.List.{get_or-drop, places}
use Rattle.automata.specs.Bits.{bit}
use Rattle.words.specs.Tag.{codes, tag_bytes}
use Rattle.words.proofs.ListLaws.{tabulated_index}
use Rattle.automata.specs.declared.reply.FormRule.{FormRule}
use Rattle.automata.specs.Reply.{rule, Form}
use Rattle.automata.specs.ReplyBody.{opening_count, closing_count, form_of, ValidReply}
use Rattle.automata.specs.Inner.FormState.{IsFormState}
use Rattle.automata.specs.Inner.Rules.{opening_rule, closing_rule}
use Rattle.automata.specs.Inner.MaskTable.{Has, puts}
use Rattle.replies.specs.Inner.Links.{pair_index}
use Rattle.replies.specs.Inner.Relation.{Related, Composed}
use Rattle.replies.specs.Inner.Transitions.{transition_count, relation_at, opening_at, closing_at, TransitionsOf}
use Rattle.replies.specs.Inner.Transitions.{Bare, Compiled, ElementOf}
use Rattle.replies.proofs.RelationLaws.{gathered_skip, gathered_more}
use Rattle.replies.proofs.RulesPut.{TagRule, rules_of, rule_count, ruling, rule_opening, rule_closing}
use Rattle.automata.proofs.BitLaws.{one_bit}
use Rattle.automata.proofs.MaskTableLaws.{no_bit, no_row, has_below, zeros_empty, PlanPut, length_puts, puts_within, puts_either, puts_has}

-- the parts of a rule are small
record SmallRule (r : TagRule) : Type 0 where
  tag : r.tag < tag_bytes
  kept : IsFormState r.kept
  state : IsFormState r.state
  next : IsFormState r.next

-- the parts of a rule
abbrev Is : TagRule → ℕ → ℕ → ℕ → ℕ → Type 0
Is r b h p q = (r.tag ≡ b) × (r.kept ≡ h) × (r.state ≡ p) × (r.next ≡ q)

module _ (b : List ℕ) (v : ValidReply b) (base : ℕ) (t : List ℕ) {t' : List ℕ} (long : base + transition_count ≤ length t)
    (bare : Bare base t) (put : t' ≡ puts (ruling b base) (rule_count b) t) where
  small : (x : ℕ) → x < rule_count b → SmallRule (rules_of b x)
  small x h =
      let few = v.few_states in
      elim (dec_lt x (opening_count b)) [
        | yes l ↦
            let o = v.opening_rules x l in
            rw (rule_opening b x l) (record { tag = omega arith; kept = omega arith; state = omega arith; next = omega arith })
        | no g ↦
            let o = v.closing_rules (x - opening_count b) (omega arith) in
            rw (rule_closing b x (omega arith)) (record { tag = omega arith; kept = omega arith; state = omega arith; next = omega arith })
      ]

  -- no rule has a bit outside
  outside : (j i : ℕ) → (j < base) ⊎ (base + transition_count ≤ j) → Has t' j i ↔ Has t j i
  unfolding ruling
  outside j i o =
      let far : PlanPut (ruling b base) (rule_count b) j i → ⊥ =
      λ w. let s = small w.turn w.below in let e = w.adds.there in ⊎_elim (λ h. omega arith) (λ h. omega arith) o in
      rw put (
        λ e. ⊎_elim (λ x. x) (λ w. absurd (far w)) (puts_either (ruling b base) t (rule_count b) j i e),
        puts_within (ruling b base) t (rule_count b) j i,
      )

  -- what relates p to q, at tag byte g and kept state h
  related : (g h p q : ℕ) → IsFormState h → IsFormState q →
      Related (get_or t' (base + relation_at g h) 0) p q ↔ ((x : ℕ) × (x < rule_count b) × Is (rules_of b x) g h p q)
  unfolding ruling
  related g h p q hh hq =
      let j = base + relation_at g h in
      let i = pair_index p q in
      rw put (
        λ e.
            ⊎_elim (λ o. absurd (bare j i (omega arith) o))
            (λ w.
            let r = rules_of b w.turn in
            let z = small w.turn w.below in
            let place = w.adds.there in
            let pair = (one_bit (pair_index r.state r.next) i).0 w.adds.has_it in
            (w.turn, w.below, (omega arith, omega arith, omega arith, omega arith)))
            (puts_either (ruling b base) t (rule_count b) j i e),
        λ (x, l, is).
            let r = rules_of b x in
            let z = small x l in
            let same : i ≡ pair_index r.state r.next = cc in
            puts_has (ruling b base) t (rule_count b) j i (omega arith)
            (record {
              turn = x;
              below = l;
              adds = record { puts_it = refl; there = cc; has_it = (one_bit (pair_index r.state r.next) i).1 same };
            }),
      )

  same_long : length t' ≡ length t
  same_long = rw put (length_puts (ruling b base) t (rule_count b))

  transitions : TransitionsOf (form_of b) base t'
  unfolding form_of
  transitions =
      record {
        long = omega (arith, same_long);
        opening = λ c k p q hc hk hp hq.
            let (to, from) = related c k p q hk hq in
            let (in_List, of-list) = tabulated_index (opening_rule b) (opening_count b) (rule p c q k) in (
              λ e. let (x, l, is) = to e in elim (dec_lt x (opening_count b)) [
                | yes h ↦ let parts = rw (rule_opening b x h) at is in of-list (x, h, cc)
                | no g ↦ let parts = rw (rule_closing b x (omega arith)) at is in absurd (omega arith)
              ],
              λ m. let (x, l, e) = in_List m in from (x, omega arith, rw (rule_opening b x l) (cc, cc, cc, cc)),
            );
        closing = λ c k r s hc hk hr hs.
            let n = opening_count b in
            let at : base + closing_at c k ≡ base + relation_at (codes + c) k = omega arith in
            let (to, from) = related (codes + c) k r s hk hs in
            let (in_List, of-list) = tabulated_index (closing_rule b) (closing_count b) (rule r c s k) in
            rw at (
              λ e. let (x, l, is) = to e in elim (dec_lt x n) [
                | yes h ↦
                    let o = v.opening_rules x h in
                    let parts = rw (rule_opening b x h) at is in
                    absurd (omega arith)
                | no g ↦
                    let parts = rw (rule_closing b x (omega arith)) at is in
                    let ec : (closing_rule b (x - n)).code ≡ c = omega arith in
                    of-list (x - n, omega arith, cc)
              ],
              λ m.
                  let (y, l, e) = in_List m in
                  let back : n + y - n ≡ y = omega arith in
                  let part : (f : FormRule → ℕ) → f (closing_rule b y) ≡ f (rule r c s k) = λ f. ap f (sym e) in
                  from (
                    n + y,
                    omega arith,
                    rw (rule_closing b (n + y) (omega arith), back)
                        (part (λ z. codes + z.code), part (λ z. z.kept), part (λ z. z.state), part (λ z. z.next)),
                  ),
            );
      }

  pub compiled : Compiled (form_of b) base t t'
  compiled =
      record {
        long = same_long;
        is = transitions;
        earlier = λ j i h. outside j i (inl h);
        bare = λ j i h e. bare j i (omega arith) ((outside j i (inr h)).0 e);
      }

-- a form that stands before what is compiled stays
pub compiled_before : {F G : Form} {base later : ℕ} {t t' : List ℕ} → Compiled G later t t' → base + transition_count ≤ later →
    TransitionsOf F base t → TransitionsOf F base t'
compiled_before {base = base} d h k =
    record {
      long = omega (arith, k.long, d.long);
      opening = λ c x p q hc hx hp hq.
          Iff.trans (d.earlier (base + opening_at c x) (pair_index p q) (omega arith)) (k.opening c x p q hc hx hp hq);
      closing = λ c x r s hc hx hr hs.
          Iff.trans (d.earlier (base + closing_at c x) (pair_index r s) (omega arith)) (k.closing c x r s hc hx hr hs);
    }

pub bare_zeros : (n base : ℕ) → Bare base (replicate n 0)
bare_zeros n base j i h e = no_row (replicate n 0) (zeros_empty n) j i e

-- the loop that goes over the kept states of an element: kept state n
module _ (t : List ℕ) (c inside n m : ℕ) (k : ElementOf t 0 c inside n m) where
  pub element_skip : get_or t (opening_at c n) 0 ≡ 0 → ElementOf t 0 c inside (n + 1) m
  element_skip e = gathered_skip k (λ p s a. no_bit (pair_index p a.first) (rw (zero-add (opening_at c n), e) at a.opened))

  pub element_more : (x y : ℕ) → Composed (get_or t (opening_at c n) 0) inside x → Composed x (get_or t (closing_at c n) 0) y →
      ElementOf t 0 c inside (n + 1) (bit_or m y)
  element_more x y opening closing =
      let first : Composed (get_or t (0 + opening_at c n) 0) inside x = rw (zero-add (opening_at c n)) opening in
      let second : Composed x (get_or t (0 + closing_at c n) 0) y = rw (zero-add (closing_at c n)) closing in
      gathered_more k y
      (λ p s hp hs. (
        λ r.
            let (l, hl, (a, closed)) = (second.exact p s hp hs).0 r in
            let (f, hf, (opened, within)) = (first.exact p l hp hl).0 a in
            record { first = f; last = l; first_small = hf; last_small = hl; opened = opened; within = within; closed = closed },
        λ a.
            let l = a.last in
            let through = (first.exact p l hp a.last_small).1 (a.first, a.first_small, (a.opened, a.within)) in
            (second.exact p s hp hs).1 (l, a.last_small, (through, a.closed)),
      ))

-- One table for several forms: the part from a form's index on has the form's relations, and what is compiled there is compiled in the
-- table.
module _ (base : ℕ) (t : List ℕ) where
  abbrev part : List ℕ
  part = mid_of base (length t - base) t

  part_is : part ≡ drop base t
  part_is = let e = length-drop base t in take_all (length t - base) (drop base t) (omega arith)

  at_part : (i : ℕ) → get_or part i 0 ≡ get_or t (base + i) 0
  at_part i = ap (λ l. get_or l i 0) part_is ∙ get_or-drop base t i 0

  part_room : length part ≡ length t - base
  part_room = ap length part_is ∙ length-drop base t

  pub room_part : base + transition_count ≤ length t → transition_count ≤ length part
  room_part h = omega (arith, part_room)

  pub bare_part : Bare base t → Bare 0 part
  bare_part b j i h e = b (base + j) i (omega arith) (rw (at_part j) at e)

  module _ (F : Form) where
    pub from_part : TransitionsOf F base t → TransitionsOf F 0 part
    from_part k =
        let at : (i : ℕ) → get_or part (0 + i) 0 ≡ get_or t (base + i) 0 =
        λ i. at_part (0 + i) ∙ ap (λ j. get_or t (base + j) 0) (zero-add i) in
        record {
          long = omega (arith, k.long, part_room);
          opening = λ c x p q hc hx hp hq. rw (at (opening_at c x)) (k.opening c x p q hc hx hp hq);
          closing = λ c x r s hc hx hr hs. rw (at (closing_at c x)) (k.closing c x r s hc hx hr hs);
        }

    module _ (u : List ℕ) (h : base ≤ length t) (d : Compiled F 0 part u) where
      abbrev all : List ℕ
      all = put_mid base (length t - base) t u

      all_long : length all ≡ length t
      all_long = same_len_mid base (length t - base) t u d.long

      part_long : length u ≡ length t - base
      part_long = d.long ∙ part_room

      in_part : (i : ℕ) → i < length u → get_or all (base + i) 0 ≡ get_or u i 0
      in_part i l = search (rules, places)

      in_first : (i : ℕ) → i < transition_count → get_or all (base + i) 0 ≡ get_or u (0 + i) 0
      in_first i l = in_part i (omega (arith, d.is.long)) ∙ ap (λ x. get_or u x 0) (sym (zero-add i))

      below_part : (j : ℕ) → j < base → get_or all j 0 ≡ get_or t j 0
      below_part j l = search (rules, places)

      pub compiled_part : Compiled F base t all
      compiled_part =
          record {
            long = all_long;
            is = record {
              long = omega (arith, d.is.long, all_long, part_long);
              opening = λ c x p q hc hx hp hq.
                  rw (in_first (opening_at c x) (omega arith)) (d.is.opening c x p q hc hx hp hq);
              closing = λ c x r s hc hx hr hs.
                  rw (in_first (closing_at c x) (omega arith)) (d.is.closing c x r s hc hx hr hs);
            };
            earlier = λ j i l. rw (below_part j l) (λ x. x, λ x. x);
            bare = λ j i l e.
                let at : base + (j - base) ≡ j = omega arith in
                let within : j - base < length u = omega (arith, has_below all j i e, all_long, part_long) in
                d.bare (j - base) i (omega arith) (rw (in_part (j - base) within) at (ap (λ x. bit (get_or all x 0) i) at ∙ e));
          }
