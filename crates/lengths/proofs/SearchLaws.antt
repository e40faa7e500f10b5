-- The whole search: its rounds rise and end, and what is left is the least length of every forest.
use mathlib.Core.Path.{◌≡◌, sym, ◌∙◌, ap}
use mathlib.Core.Bool.{true≢false}
use mathlib.Core.Logic.{⊎_elim}
use mathlib.Core.List.{List}
use Rattle.std.specs.Prelude.{None}
use Prim.Native.Nat.{ℕ, suc, ◌+◌, ◌*◌, ◌-◌, ◌<◌, ◌≤◌}
use native.Mathlib.Omega.{arith}
use lib.ListN.{length, get_or}
use Rattle.words.specs.Tag.{IsCode}
use Rattle.words.proofs.Truth.{true_or_false}
use Rattle.automata.specs.Bits.{bit}
use Rattle.automata.specs.Target.{Target, Closed}
use Rattle.automata.specs.TargetBody.{most_states}
use Rattle.automata.specs.Inner.FormState.{IsFormState}
use Rattle.relaxation.specs.Inner.Pairs.{pair_count, pair_of, form_part, target_part}
use Rattle.relaxation.specs.Inner.PairSet.{mask_count, mask_index, Member}
use Rattle.relaxation.specs.Inner.Lengths.{length_of, length_cap, capped, no_length}
use Rattle.relaxation.specs.Inner.Wraps.{LeadsBeside, Wraps}
use Rattle.relaxation.specs.declared.found.Found.{Found}
use Rattle.rounds.specs.Inner.Settled.{LeastOfRows}
use Rattle.lengths.specs.Inner.Leads.{Leads, leads_none, leads_elem, PairLeads}
use Rattle.lengths.specs.Inner.Search.{member_count, Searched, LeastLengths}
use Rattle.lengths.proofs.LeadsLaws.{NoSmaller, shortest_parts}
use Rattle.relaxation.proofs.PairLaws.{form_of_lem, target_of_lem, pair_below}
use Rattle.lengths.proofs.CountLaws.{count_below}

-- how much can still be settled
abbrev pub most_settled : ℕ
most_settled = mask_count * most_states

abbrev pub still_left : List ℕ → ℕ
still_left S = most_settled - member_count S

pub left_falls : (S S' : List ℕ) → member_count S < member_count S' → length S' ≡ mask_count → still_left S' < still_left S
left_falls S S' h l = let m : member_count S' ≤ most_settled = rw l at (count_below S') in omega arith

module _ (A : Target) (links : List ℕ) (closed : Closed A) (few : A.states ≤ most_states) where
  -- an element around an inside, as pairs
  wraps : (p q c a b r s : ℕ) → IsCode c → q < A.states → r < A.states → LeadsBeside links c p a b s →
      Wraps A links (pair_of a (A.open_to q c)) b r (pair_of p q) (pair_of s (A.close_to r q c)) c
  wraps p q c a b r s hc hq hr l =
      let ho = closed.open_below q c in
      let hl = closed.close_below r q c in
      let eq = target_of_lem p q (omega arith) in
      let eo = target_of_lem a (A.open_to q c) (omega arith) in
      let el = target_of_lem s (A.close_to r q c) (omega arith) in
      let fp = form_of_lem p q (omega arith) in
      let fa = form_of_lem a (A.open_to q c) (omega arith) in
      let fs = form_of_lem s (A.close_to r q c) (omega arith) in
      record {
        is_code = hc;
        below = rw eq hq;
        opens = ap (λ x. A.open_to x c) eq ∙ sym eo;
        leads = rw (fp, fa, fs) l;
        closes = ap (λ x. A.close_to r x c) eq ∙ sym el;
      }

  leads_form : {p q p' q' n : ℕ} → Leads A links p q p' q' n → IsFormState p → IsFormState p'
  leads_form leads_none h = h
  leads_form (leads_elem hc ha hb hs l i o) h = leads_form o hs

  leads_target : {p q p' q' n : ℕ} → Leads A links p q p' q' n → q < A.states → q' < A.states
  leads_target leads_none h = h
  leads_target {q = q} (leads_elem {c = c} {r = r} hc ha hb hs l i o) h = leads_target o (closed.close_below r q c)

  module _ (S T F : List ℕ) (f : Found) (l : ℕ) (s : Searched A links S T F f l) (r : LeastOfRows f.least None) where
    abbrev L : List ℕ
    L = f.lengths

    -- at the end every length is settled
    all_settled : (x z : ℕ) → x < pair_count → z < pair_count → length_of L x z < no_length → Member S x z
    all_settled x z hx hz h =
        ⊎_elim (λ m. m)
        (λ n.
        let a = (s.left x hx).below z hz (λ m. true≢false (sym m ∙ n)) in
        let b = r x hx in
        absurd (omega arith))
        (true_or_false (bit (get_or S (mask_index x (form_part z)) 0) (target_part z)))

    cap_two : (a b m n : ℕ) → a ≤ capped (m + 1) → b ≤ capped n → capped (a + b) ≤ capped (suc (m + n))
    cap_two a b m n h k = omega arith

    cap_one : (a m : ℕ) → a ≤ capped m → capped (a + 1) ≤ capped (m + 1)
    cap_one a m h = omega arith

    short : (a m : ℕ) → a ≤ capped m → a < no_length
    short a m h = omega arith

    no_smaller : {p q p' q' n : ℕ} → Leads A links p q p' q' n → IsFormState p → q < A.states →
        length_of L (pair_of p q) (pair_of p' q') ≤ capped n
    no_smaller {p} {q} leads_none hp hq =
        let e = (s.stays (pair_of p q) (pair_below p q hp (omega arith)) (rw (target_of_lem p q (omega arith)) hq)).1 in
        omega arith
    no_smaller {p} {q} {p'} {q'} (leads_elem {c = c} {a = a} {b = b} {r = t} {s = e} {m = m} {n = n} hc ha hb hs k i o) hp hq =
        let ho = closed.open_below q c in
        let hl = closed.close_below t q c in
        let ht = leads_target i ho in
        element p q c a b t e p' q' m n hp hq hc ha hb hs ho ht hl (leads_form o hs) (leads_target o hl) k (no_smaller i ha ho)
        (no_smaller o hs hl)
      where
        element : (p q c a b t e p' q' m n : ℕ) → IsFormState p → q < A.states → IsCode c → IsFormState a → IsFormState b → IsFormState e →
            A.open_to q c < A.states → t < A.states → A.close_to t q c < A.states → IsFormState p' → q' < A.states →
            LeadsBeside links c p a b e →
            length_of L (pair_of a (A.open_to q c)) (pair_of b t) ≤ capped m →
            length_of L (pair_of e (A.close_to t q c)) (pair_of p' q') ≤ capped n →
            length_of L (pair_of p q) (pair_of p' q') ≤ capped (suc (m + n))
        element p q c a b t e p' q' m n hp hq hc ha hb he ho ht hl hp' hq' k inside after =
            let x = pair_of p q in
            let y = pair_of a (A.open_to q c) in
            let z = pair_of e (A.close_to t q c) in
            let w = pair_of p' q' in
            let hx = pair_below p q hp (omega arith) in
            let hy = pair_below a (A.open_to q c) ha (omega arith) in
            let hi = pair_below b t hb (omega arith) in
            let hz = pair_below e (A.close_to t q c) he (omega arith) in
            let hw = pair_below p' q' hp' (omega arith) in
            let si = all_settled y (pair_of b t) hy hi (short _ m inside) in
            let around = s.wrapped y b t x z c hy hb ht hx hz si (wraps p q c a b t e hc hq ht k) in
            let grown = cap_one (length_of L y (pair_of b t)) m inside in
            let whole : length_of L x z ≤ capped (m + 1) = omega arith in
            let sx = all_settled x z hx hz (short _ (m + 1) whole) in
            let sz = all_settled z w hz hw (short _ n after) in
            let both = s.joined x z w hx hz hw sx sz in
            let cap = cap_two (length_of L x z) (length_of L z w) m n whole after in
            omega arith

    pub searched_done : LeastLengths A links L
    searched_done =
        record {
          long = s.whole.lengths;
          sound = s.sound;
          least = λ x z n hx hz h v.
              let ex : pair_of (form_part x) (target_part x) ≡ x = omega arith in
              let ez : pair_of (form_part z) (target_part z) ≡ z = omega arith in
              rw (ex, ez) at (no_smaller v (omega arith) h);
        }

-- Of a shortest forest that is counted the table has both parts, and they are counted: what is above the cap is no part of what is below.
module _ (A : Target) (links L : List ℕ) (d : LeastLengths A links L) (few : A.states ≤ most_states) where
  -- a forest between pairs is one between their parts
  as_pairs : (p q p' q' n : ℕ) → q < most_states → q' < most_states → Leads A links p q p' q' n →
      PairLeads A links (pair_of p q) (pair_of p' q') n
  as_pairs p q p' q' n h h' v = rw (form_of_lem p q h, target_of_lem p q h, form_of_lem p' q' h', target_of_lem p' q' h') v

  as_parts : (p q p' q' n : ℕ) → q < most_states → q' < most_states → PairLeads A links (pair_of p q) (pair_of p' q') n →
      Leads A links p q p' q' n
  as_parts p q p' q' n h h' v = rw (form_of_lem p q h, target_of_lem p q h, form_of_lem p' q' h', target_of_lem p' q' h') at v

  -- a forest that no other is smaller than, with a length below the cap, has this length in the table
  counted : {p q p' q' n : ℕ} → IsFormState p → q < A.states → IsFormState p' → q' < most_states → Leads A links p q p' q' n →
      NoSmaller A links p q p' q' n → n < length_cap → length_of L (pair_of p q) (pair_of p' q') ≡ n
  counted {p} {q} {p'} {q'} {n} hp hq hp' hq' v least h =
      let hq₀ : q < most_states = omega arith in
      let x = pair_of p q in
      let z = pair_of p' q' in
      let hx = pair_below p q hp hq₀ in
      let hz = pair_below p' q' hp' hq' in
      let upper = d.least x z n hx hz (rw (target_of_lem p q hq₀) hq) (as_pairs p q p' q' n hq₀ hq' v) in
      let (_, (k, e, w)) = d.sound x z hx hz (omega arith) in
      let lower = least k (as_parts p q p' q' k hq₀ hq' w) in
      omega arith

  pub parts_counted : {p q c a b r s p' q' m n : ℕ} → IsCode c → IsFormState a → IsFormState b → IsFormState s → IsFormState p' →
      A.open_to q c < A.states → r < most_states → A.close_to r q c < A.states → q' < most_states → LeadsBeside links c p a b s →
      Leads A links a (A.open_to q c) b r m → Leads A links s (A.close_to r q c) p' q' n →
      NoSmaller A links p q p' q' (suc (m + n)) → suc (m + n) < length_cap →
      (length_of L (pair_of a (A.open_to q c)) (pair_of b r) ≡ m) × (length_of L (pair_of s (A.close_to r q c)) (pair_of p' q') ≡ n)
  parts_counted hc ha hb hs hp' ho hr hl hq' l i o least h =
      let (inside, after, hi, hg) = shortest_parts A links hc ha hb hs l i o least in
      (counted ha ho hb hr i inside (omega arith), counted hs hl hp' hq' o after (omega arith))
