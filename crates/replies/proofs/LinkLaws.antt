-- Laws of the links: a turn of the loop that writes them, and that all turns together give the links of the form.
use mathlib.Core.Path.{◌≡◌, refl, sym, ◌∙◌, ap, ap₂}
use mathlib.Core.Bool.{true, ◌&&◌, and-false}
use mathlib.Core.Logic.{⊎_elim}
use mathlib.Core.List.{List}
use Prim.Native.Nat.{ℕ, ◌+◌, ◌*◌, ◌%◌, ◌^◌, ◌<◌}
use native.Mathlib.Nat.{one-mul}
use native.Mathlib.Omega.{arith}
use native.Mathlib.Decide.{ℕ_discrete}
use borrow.Author.Tests.{eqb-true, eq-eqb, ne_eqb}
use lib.Dec.{eqb, lit<}
use lib.ListN.{replicate, length-replicate}
use lib.Pow.{shl_exact}
use Rattle.words.proofs.ListLaws.{tabulated_index}
use Rattle.words.proofs.Truth.{and_both}
use Rattle.automata.specs.declared.reply.FormRule.{FormRule}
use Rattle.automata.specs.Reply.{rule}
use Rattle.automata.specs.ReplyBody.{most_reply_states, opening_count, closing_count, form_of, ValidReply}
use Rattle.automata.specs.Inner.FormState.{IsFormState}
use Rattle.automata.specs.Inner.MaskTable.{put, puts, turns}
use Rattle.automata.specs.Inner.Rules.{opening_rule, closing_rule}
use Rattle.automata.specs.Inner.ForestRun.{same_rule}
use Rattle.automata.proofs.BitLaws.{one_bit}
use Rattle.automata.proofs.MaskTableLaws.{no_row, zeros_empty, Adds, Turned, turns_add, PutAt, PlanPut, puts_adds, puts_more, puts_skip}
use Rattle.replies.specs.Inner.Links.{link_count, link_index, Linked, LinksOf}
use Rattle.replies.specs.Inner.Linking.{sharing, shared_index, linking, linkings}

-- a state as a mask: one, shifted by less than the width, loses nothing
pub state_mask : (s : ℕ) → IsFormState s → 1 * 2 ^ s % 2 ^ most_reply_states ≡ 2 ^ s
state_mask s h = shl_exact 1 s most_reply_states (lit< tt) (omega arith) ∙ one-mul (2 ^ s)

-- a turn, by the two rules that were read
module _ (b : List ℕ) (i j : ℕ) {o d : FormRule} (ho : o ≡ opening_rule b i) (hd : d ≡ closing_rule b j) (t u : List ℕ)
    (h : u ≡ puts (linking b i) j t) where
  when_is : (linking b i).when j ≡ (eqb o.code d.code && eqb o.kept d.kept)
  unfolding linking
  when_is = ap₂ sharing (sym ho) (sym hd)

  pub link_more : o.code ≡ d.code → o.kept ≡ d.kept →
      put u (link_index o.code o.state o.next d.state) (2 ^ d.next) ≡ puts (linking b i) (j + 1) t
  unfolding linking
  link_more ec ek =
      rw (ap₂ shared_index ho hd)
      (puts_more (linking b i) t j u h (when_is ∙ rw (eq-eqb o.code d.code ec, eq-eqb o.kept d.kept ek) refl)
      (ap (λ x. 2 ^ x.next) hd))

  pub link_skip : (o.code ≡ d.code → o.kept ≡ d.kept → ⊥) → u ≡ puts (linking b i) (j + 1) t
  link_skip n =
      puts_skip (linking b i) t j u h (when_is ∙ elim (ℕ_discrete o.code d.code) [
        | yes e ↦ rw (ne_eqb o.kept d.kept (n e)) (and-false (eqb o.code d.code))
        | no e ↦ rw (ne_eqb o.code d.code e) refl
      ])

shared : (c d k h : ℕ) → (eqb c d && eqb k h) ≡ true → (c ≡ d) × (k ≡ h)
shared c d k h e = let (x, y) = and_both (eqb c d) (eqb k h) e in (eqb-true c d x, eqb-true k h y)

same_place : {c p q r c' p' q' r' : ℕ} → IsFormState p → IsFormState q → IsFormState r → IsFormState p' → IsFormState q' → IsFormState r' →
    link_index c p q r ≡ link_index c' p' q' r' → (c ≡ c') × (p ≡ p') × (q ≡ q') × (r ≡ r')
same_place hp hq hr hp' hq' hr' e = omega arith

module _ (b : List ℕ) (v : ValidReply b) where
  -- what opening rule i puts
  abbrev Puts : ℕ → ℕ → ℕ → Type 0
  Puts i = PlanPut (linking b i) (closing_count b)

  all_add : Adds (turns (linkings b) (opening_count b)) (Turned Puts (opening_count b))
  unfolding linkings
  all_add = turns_add (linkings b) Puts (λ i. puts_adds (linking b i) (closing_count b)) (opening_count b)

  module _ {c p q r s : ℕ} (hp : IsFormState p) (hq : IsFormState q) (hr : IsFormState r) where
    -- what two rules put is a link, and each link is put
    put_linked : (i j : ℕ) → i < opening_count b → j < closing_count b → PutAt (linking b i) j (link_index c p q r) s →
        Linked (form_of b) c p q r s
    unfolding linking form_of
    put_linked i j hi hj x =
        let few = v.few_states in
        let vo = v.opening_rules i hi in
        let vd = v.closing_rules j hj in
        let (xc, xp, xq, xr) = same_place (omega arith) (omega arith) (omega arith) hp hq hr x.there in
        let o = opening_rule b i in
        let d = closing_rule b j in
        let (xd, xk) = shared o.code d.code o.kept d.kept x.puts_it in
        let xs = (one_bit d.next s).0 x.has_it in
        let k = o.kept in
        record {
          kept = k;
          opened = (tabulated_index (opening_rule b) (opening_count b) (rule p c q k)).1 (i, hi, same_rule (sym xp) (sym xc) (sym xq) refl);
          closed = (tabulated_index (closing_rule b) (closing_count b) (rule r c s k)).1 (j, hj, same_rule (sym xr) (sym xc ∙ xd) xs xk);
        }

    linked_put : Linked (form_of b) c p q r s → Turned Puts (opening_count b) (link_index c p q r) s
    unfolding linking form_of
    linked_put m =
        let k = m.kept in
        let (x, hx, ex) = (tabulated_index (opening_rule b) (opening_count b) (rule p c q k)).0 m.opened in
        let (y, hy, ey) = (tabulated_index (closing_rule b) (closing_count b) (rule r c s k)).0 m.closed in
        let both : PutAt (linking b x) y (link_index c p q r) s = record {
          puts_it = sym (ap₂ sharing ex ey) ∙ rw (eq-eqb c c refl, eq-eqb k k refl) refl;
          there = sym (ap₂ shared_index ex ey);
          has_it = rw (← ap (λ z. 2 ^ z.next) ey) ((one_bit s s).1 refl);
        } in
        record { turn = x; below = hx; adds = record { turn = y; below = hy; adds = both } }

  -- every pair of rules together: the links of the form
  pub links_all : {l : List ℕ} → l ≡ turns (linkings b) (opening_count b) (replicate link_count 0) → LinksOf (form_of b) l
  links_all e =
      let zeros : List ℕ = replicate link_count 0 in
      let long = length-replicate {A = ℕ} link_count 0 in
      record {
        long = rw e (all_add.long zeros ∙ long);
        exact = λ c p q r s hc hp hq hr. let i = link_index c p q r in rw e (
          λ h.
              ⊎_elim (λ z. absurd (no_row zeros (zeros_empty link_count) i s z))
              (λ x. put_linked hp hq hr x.turn x.adds.turn x.below x.adds.below x.adds.adds)
              (all_add.either zeros i s h),
          λ m. all_add.has_it zeros i s (omega arith) (linked_put hp hq hr m),
        );
      }
