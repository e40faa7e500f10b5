-- Forests one after the other and within an element, with their sizes, and what follows for lengths that have a forest.
use mathlib.Core.Path.{◌≡◌, refl, subst}
use mathlib.Core.List.{List}
use Prim.Native.Nat.{ℕ, suc, ◌+◌, ◌*◌, ◌<◌, ◌≤◌}
use native.Mathlib.Omega.{arith}
use Rattle.words.specs.Tag.{IsCode}
use Rattle.automata.specs.Target.{Target}
use Rattle.automata.specs.TargetBody.{most_states}
use Rattle.automata.specs.Inner.FormState.{IsFormState}
use Rattle.relaxation.specs.Inner.Pairs.{pair_count, form_part, target_part}
use Rattle.relaxation.specs.Inner.Lengths.{length_of, length_cap, capped, no_length}
use Rattle.relaxation.specs.Inner.Wraps.{LeadsBeside, Wraps}
use Rattle.lengths.specs.Inner.Leads.{Leads, leads_none, leads_elem, PairLeads}
use Rattle.lengths.specs.Inner.Search.{SoundLengths}
use Rattle.relaxation.proofs.PairLaws.{form_of_lem, target_of_lem}

module _ (A : Target) (links : List ℕ) where
  leads_join : {p q p' q' p'' q'' m n : ℕ} → Leads A links p q p' q' m → Leads A links p' q' p'' q'' n → Leads A links p q p'' q'' (m + n)
  leads_join {p} {q} {p'' = p''} {q'' = q''} {n = n} leads_none v =
      let e : n ≡ 0 + n = omega arith in subst (λ k. Leads A links p q p'' q'' k) e v
  leads_join {p} {q} {p'' = p''} {q'' = q''} {n = n} (leads_elem {m = m} {n = k} hc ha hb hs l i o) v =
      let e : suc (m + (k + n)) ≡ suc (m + k) + n = omega arith in
      subst (λ j. Leads A links p q p'' q'' j) e (leads_elem hc ha hb hs l i (leads_join o v))

  -- a forest of no elements leads nowhere else
  leads_zero : {p q p' q' n : ℕ} → Leads A links p q p' q' n → n ≡ 0 → (p ≡ p') × (q ≡ q')
  leads_zero leads_none e = (refl, refl)
  leads_zero (leads_elem {m = m} {n = k} hc ha hb hs l i o) e = absurd (omega arith)

  pub pair_zero : (x z : ℕ) {n : ℕ} → PairLeads A links x z n → n ≡ 0 → x ≡ z
  pair_zero x z v e = let (a, b) = leads_zero v e in omega arith

  -- no forest between these is smaller than n
  abbrev pub NoSmaller : ℕ → ℕ → ℕ → ℕ → ℕ → Type 0
  NoSmaller p q p' q' n = (k : ℕ) → Leads A links p q p' q' k → n ≤ k

  -- the parts of a shortest forest are shortest too, each between its own pairs, and smaller
  pub shortest_parts : {p q c a b r s p' q' m n : ℕ} → IsCode c → IsFormState a → IsFormState b → IsFormState s →
      LeadsBeside links c p a b s → Leads A links a (A.open_to q c) b r m → Leads A links s (A.close_to r q c) p' q' n →
      NoSmaller p q p' q' (suc (m + n)) →
      NoSmaller a (A.open_to q c) b r m × NoSmaller s (A.close_to r q c) p' q' n × (m < suc (m + n)) × (n < suc (m + n))
  shortest_parts {m = m} {n = n} hc ha hb hs l i o least = (
    λ k v. let h = least (suc (k + n)) (leads_elem hc ha hb hs l v o) in omega arith,
    λ k v. let h = least (suc (m + k)) (leads_elem hc ha hb hs l i v) in omega arith,
    omega arith,
    omega arith,
  )

  -- k is the length of a forest from x to z, and the target is in one of its states at x
  abbrev pub Reached : ℕ → ℕ → ℕ → Type 0
  Reached x z k = (target_part x < A.states) × ((n : ℕ) × (capped n ≡ k) × PairLeads A links x z n)

  pub sum_reached : (x y z : ℕ) {j k : ℕ} → Reached x y j → Reached y z k → Reached x z (capped (j + k))
  sum_reached x y z {j} {k} (h, (m, em, v)) (_, (n, en, w)) = (h, (m + n, cap_sum m n j k em en, leads_join v w))
    where
      cap_sum : (m n j k : ℕ) → capped m ≡ j → capped n ≡ k → capped (m + n) ≡ capped (j + k)
      cap_sum m n j k a b = omega arith

  cap_more : (n k : ℕ) → capped n ≡ k → capped (suc (n + 0)) ≡ capped (k + 1)
  cap_more n k e = omega arith

  pub wrap_reached : (y b r x z c : ℕ) {k : ℕ} → y < pair_count → IsFormState b → r < most_states → z < pair_count →
      Reached y (most_states * b + r) k → Wraps A links y b r x z c → Reached x z (capped (k + 1))
  wrap_reached y b r x z c {k} hy hb hr hz (_, (n, e, v)) w =
      let inside : Leads A links (form_part y) (A.open_to (target_part x) c) b r n =
      rw w.opens (rw (form_of_lem b r hr, target_of_lem b r hr) at v) in
      let after : Leads A links (form_part z) (A.close_to r (target_part x) c) (form_part z) (target_part z) 0 = rw w.closes leads_none in
      let ha : IsFormState (form_part y) = omega arith in
      let hs : IsFormState (form_part z) = omega arith in
      (w.below, (suc (n + 0), cap_more n k e, leads_elem w.is_code ha hb hs w.leads inside after))

  -- in a table where every length has a forest
  module _ (lengths : List ℕ) (sound : SoundLengths A links lengths) where
    pub sound_capped : (x z : ℕ) → x < pair_count → z < pair_count → length_of lengths x z < no_length → length_of lengths x z ≤ length_cap
    sound_capped x z hx hz h = let (_, (n, e, _)) = sound x z hx hz h in omega arith

    pub sound_zero : (x z : ℕ) → x < pair_count → z < pair_count → length_of lengths x z ≡ 0 → x ≡ z
    sound_zero x z hx hz h =
        let (_, (n, e, v)) = sound x z hx hz (omega arith) in
        pair_zero x z v (omega arith)
