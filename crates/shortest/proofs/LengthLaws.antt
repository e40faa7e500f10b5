-- Least lengths by forests: a length that is counted has a forest, and no forest is smaller.
use mathlib.Core.Path.{◌≡◌, ◌∙◌, ap}
use mathlib.Core.List.{List}
use Prim.Native.Nat.{ℕ, ◌+◌, ◌<◌, ◌≤◌}
use native.Mathlib.Omega.{arith}
use Rattle.words.specs.Tag.{IsCode}
use Rattle.words.specs.Forest.{Forest, none, elem, Coded}
use Rattle.words.proofs.ForestLong.{elements}
use Rattle.words.proofs.ForestJoined.{joined}
use Rattle.automata.specs.Target.{Target, Closed}
use Rattle.automata.specs.TargetBody.{most_states}
use Rattle.automata.specs.Reply.{Form}
use Rattle.automata.specs.Inner.TargetRead.{over}
use Rattle.automata.specs.Inner.FormState.{IsFormState}
use Rattle.automata.specs.Inner.ForestRun.{Over, over_none, over_elem}
use Rattle.automata.proofs.TargetRun.{over_below}
use Rattle.replies.specs.Inner.Links.{Linked}
use Rattle.replies.proofs.LawfulPass.{run_below}
use Rattle.effects.specs.Inner.EffectForest.{Led}
use Rattle.relaxation.specs.Inner.Pairs.{pair_count, pair_of, form_part, target_part}
use Rattle.relaxation.specs.Inner.Lengths.{length_of, length_cap, capped}
use Rattle.effects.proofs.EffectReach.{leads_forest, forest_leads}
use Rattle.relaxation.proofs.PairLaws.{form_of_lem, target_of_lem, pair_below}
use Rattle.shortest.specs.Inner.Wanted.{FormTables}

pub elements_joined : (f g : Forest) → elements (joined f g) ≡ elements f + elements g
elements_joined none g = omega arith
elements_joined (elem c f h) g = let e = elements_joined h g in omega arith

module _ (A : Target) (F : Form) where
  -- a run over a forest, and then another forest from where it leads
  run_joined : {p q p' p'' q'' : ℕ} {f g : Forest} → Coded f → Over F p f p' → Led A F p' (over A f q) p'' q'' g →
      Led A F p q p'' q'' (joined f g)
  run_joined cf over_none b = b
  run_joined e (over_elem x i y o) b =
      let (hc, cf, ch) = e in
      let r = run_joined ch o b in
      record { coded = (hc, cf, r.coded); ran = over_elem x i y r.ran; reaches = r.reaches }

  pub led_joined : {p q p' q' p'' q'' : ℕ} {f g : Forest} → Led A F p q p' q' f → Led A F p' q' p'' q'' g → Led A F p q p'' q'' (joined f g)
  led_joined a b = run_joined a.coded a.ran (rw a.reaches b)

  -- an element, by its links, its inside and what follows it
  pub led_elem : {p q c a b r s p' q' : ℕ} {g h : Forest} → IsCode c → Linked F c p a b s → Led A F a (A.open_to q c) b r g →
      Led A F s (A.close_to r q c) p' q' h → Led A F p q p' q' (elem c g h)
  led_elem {q = q} {c = c} {h = h} hc l i o =
      record {
        coded = (hc, i.coded, o.coded);
        ran = over_elem l.opened i.ran l.closed o.ran;
        reaches = ap (λ y. over A h (A.close_to y q c)) i.reaches ∙ o.reaches;
      }

  -- f leads there, and no forest that does is smaller
  pub record Smallest (p q p' q' : ℕ) (f : Forest) : Type 0 where
    pub led : Led A F p q p' q' f
    pub least : (g : Forest) → Led A F p q p' q' g → elements f ≤ elements g

module _ (A : Target) (F : Form) (links rules lengths : List ℕ) (closed : Closed A) (few : A.states ≤ most_states)
    (t : FormTables A F links rules lengths) where
  -- where a forest leads from states that are states
  pub led_below : {p q p' q' : ℕ} {f : Forest} → IsFormState p → q < A.states → Led A F p q p' q' f → IsFormState p' × (q' < A.states)
  led_below {q = q} {f = f} hp hq l = (run_below F t.few hp l.ran, rw l.reaches at (over_below A closed f q hq))

  pub length_led : (p q z : ℕ) → IsFormState p → q < A.states → z < pair_count → length_of lengths (pair_of p q) z < length_cap →
      (f : Forest) × Led A F p q (form_part z) (target_part z) f × (elements f ≡ length_of lengths (pair_of p q) z)
  length_led p q z hp hq hz h =
      let hq₀ : q < most_states = omega arith in
      let (_, (n, e, v)) = t.least.sound (pair_of p q) z (pair_below p q hp hq₀) hz (omega arith) in
      let (f, l, size) = leads_forest A F links t.links_of t.few hp (rw (form_of_lem p q hq₀, target_of_lem p q hq₀) at v) in
      (f, l, omega arith)

  pub led_length : (p q p' q' : ℕ) (f : Forest) → IsFormState p → q < A.states → Led A F p q p' q' f →
      length_of lengths (pair_of p q) (pair_of p' q') ≤ capped (elements f)
  led_length p q p' q' f hp hq l =
      let (hp', hq') = led_below hp hq l in
      let hq₀ : q < most_states = omega arith in
      let hq'₀ : q' < most_states = omega arith in
      let v = rw l.reaches at (forest_leads A F links t.links_of t.few l.coded hp l.ran q) in
      t.least.least (pair_of p q) (pair_of p' q') (elements f) (pair_below p q hp hq₀) (pair_below p' q' hp' hq'₀)
      (rw (target_of_lem p q hq₀) hq)
      (rw (form_of_lem p q hq₀, target_of_lem p q hq₀, form_of_lem p' q' hq'₀, target_of_lem p' q' hq'₀) v)

  -- below the cap, the forests of a table's length are those that no other is smaller than
  pub length_smallest : {p q p' q' : ℕ} {f : Forest} → IsFormState p → q < A.states → Led A F p q p' q' f →
      elements f ≡ length_of lengths (pair_of p q) (pair_of p' q') → Smallest A F p q p' q' f
  length_smallest {p} {q} {p'} {q'} hp hq l e =
      record { led = l; least = λ g k. let h = led_length p q p' q' g hp hq k in omega arith }

  pub smallest_length : {p q p' q' : ℕ} {f : Forest} → IsFormState p → q < A.states → Smallest A F p q p' q' f → elements f < length_cap →
      elements f ≡ length_of lengths (pair_of p q) (pair_of p' q')
  smallest_length {p} {q} {p'} {q'} {f} hp hq s h =
      let (hp', hq') = led_below hp hq s.led in
      let hq'₀ : q' < most_states = omega arith in
      let upper = led_length p q p' q' f hp hq s.led in
      let (g, l, e) = length_led p q (pair_of p' q') hp hq (pair_below p' q' hp' hq'₀) (omega arith) in
      let lower = s.least g (rw (form_of_lem p' q' hq'₀, target_of_lem p' q' hq'₀) at l) in
      omega arith
