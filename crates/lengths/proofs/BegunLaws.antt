-- The beginning of the search: each pair is reached from itself with nothing, and elements with nothing within them are candidates.
use mathlib.Core.Path.{◌≡◌, refl, sym, ◌∙◌, subst}
use mathlib.Core.Logic.{⊎_elim}
use mathlib.Core.List.{List}
use Prim.Native.Nat.{ℕ, ◌+◌, ◌*◌, ◌^◌, ◌<◌, ◌≤◌}
use native.Mathlib.Omega.{arith}
use native.Mathlib.Decide.{ℕ_discrete, dec_lt}
use lib.ListN.{length, get_or, replicate, get_or-replicate}
use Rattle.automata.specs.Target.{Target}
use Rattle.automata.specs.TargetBody.{most_states}
use Rattle.automata.specs.Inner.FormState.{IsFormState}
use Rattle.automata.proofs.BitLaws.{one_bit}
use Rattle.automata.proofs.MaskTableLaws.{no_bit, zeros_empty}
use Rattle.relaxation.specs.Inner.Pairs.{pair_count, form_part, target_part}
use Rattle.relaxation.specs.Inner.PairSet.{mask_count, mask_index, Member}
use Rattle.relaxation.specs.Inner.Lengths.{length_count, length_index, length_of, capped, no_length}
use Rattle.relaxation.specs.Inner.Wraps.{Wraps}
use Rattle.relaxation.specs.Inner.Relaxation.{found, Whole, Firm, Relaxed, Around}
use Rattle.relaxation.specs.declared.found.Found.{Found}
use Rattle.rounds.specs.Inner.Settled.{LeastLeft}
use Rattle.rounds.specs.Inner.Begun.{Itself, Stayed, EmptyInside}
use Rattle.lengths.specs.Inner.Leads.{leads_none}
use Rattle.lengths.specs.Inner.Search.{SoundLengths, Searched}
use Rattle.lengths.proofs.LeadsLaws.{Reached, wrap_reached}
use Rattle.relaxation.proofs.Relaxing.{known_stays, firm_on}
use Rattle.lengths.proofs.RoundLaws.{left_on}

-- tables with no length in them
pub no_length_lem : (t : List ℕ) → t ≡ replicate length_count no_length → (x z : ℕ) → x < pair_count → z < pair_count →
    length_of t x z ≡ no_length
unfolding length_of
no_length_lem t e x z hx hz = rw e (get_or-replicate {A = ℕ} length_count (length_index x z) no_length 0 (omega arith))

pub no_least : (t : List ℕ) → t ≡ replicate pair_count no_length → (x : ℕ) → x < pair_count → get_or t x 0 ≡ no_length
no_least t e x hx = rw e (get_or-replicate {A = ℕ} pair_count x no_length 0 hx)

pub no_mask : (t : List ℕ) → t ≡ replicate mask_count 0 → (i : ℕ) → get_or t i 0 ≡ 0
no_mask t e i = rw e (zeros_empty mask_count i)

-- sets of zeros have no member
none_member : (t : List ℕ) → ((i : ℕ) → get_or t i 0 ≡ 0) → (x z : ℕ) → ¬ Member t x z
none_member t e x z m = no_bit (target_part z) (rw (e (mask_index x (form_part z))) at m)

module _ (A : Target) (links : List ℕ) (few : A.states ≤ most_states) (L₀ W₀ K₀ S₀ T₀ F₀ : List ℕ)
    (no_lengths : (x z : ℕ) → x < pair_count → z < pair_count → length_of L₀ x z ≡ no_length)
    (no_least : (x : ℕ) → x < pair_count → get_or W₀ x 0 ≡ no_length)
    (no-known : (i : ℕ) → get_or K₀ i 0 ≡ 0) (no-settled : (i : ℕ) → get_or S₀ i 0 ≡ 0) (no-into : (i : ℕ) → get_or T₀ i 0 ≡ 0)
    (no-fresh : (i : ℕ) → get_or F₀ i 0 ≡ 0)
    (L₁ K₁ S₁ T₁ : List ℕ) (st : Stayed A.states L₀ K₀ S₀ T₀ L₁ K₁ S₁ T₁) (whole : Whole (found L₁ W₀ K₁))
    (settled_long : length S₁ ≡ mask_count) (into_long : length T₁ ≡ mask_count) (fresh_long : length F₀ ≡ mask_count) where
  abbrev f₁ : Found
  f₁ = found L₁ W₀ K₁

  -- a pair itself, or no length
  itself : (x z : ℕ) → x < pair_count → z < pair_count → length_of L₁ x z < no_length → Itself A.states x z
  itself x z hx hz h =
      elim (ℕ_discrete x z) [
        | yes e ↦ elim (dec_lt (target_part x) A.states) [
          | yes l ↦ (e, l)
          | no n ↦ let o = st.others x z hx hz (λ (a, b). n b) in let k = no_lengths x z hx hz in absurd (omega arith)
        ]
        | no n ↦ let o = st.others x z hx hz (λ (a, b). n a) in let k = no_lengths x z hx hz in absurd (omega arith)
      ]

  here : (x z : ℕ) → x < pair_count → Itself A.states x z → length_of L₁ x z ≡ 0
  here x z hx (e, l) = subst (λ y. length_of L₁ x y ≡ 0) e (st.here x hx l)

  known_itself : (x z : ℕ) → x < pair_count → z < pair_count → Member K₁ x z → Itself A.states x z
  known_itself x z hx hz m = ⊎_elim (λ o. absurd (none_member K₀ no-known x z o)) (λ i. i) (st.knows.either x z hx hz m)

  settled_itself : (x z : ℕ) → x < pair_count → z < pair_count → Member S₁ x z → Itself A.states x z
  settled_itself x z hx hz m = ⊎_elim (λ o. absurd (none_member S₀ no-settled x z o)) (λ i. i) (st.settles.either x z hx hz m)

  into_itself : (x z : ℕ) → x < pair_count → z < pair_count → Member T₁ x z → Itself A.states x z
  into_itself x z hx hz m = ⊎_elim (λ o. absurd (none_member T₀ no-into x z o)) (λ i. i) (st.turns.either x z hx hz m)

  turned_round : (x z : ℕ) → Itself A.states x z → Itself A.states z x
  turned_round x z (e, l) = (sym e, rw e at l)

  settled_known : (x z : ℕ) → x < pair_count → z < pair_count → Member S₁ x z → Member K₁ x z
  settled_known x z hx hz m = st.knows.has_it x z hx hz (settled_itself x z hx hz m)

  firm₁ : Firm 1 f₁
  firm₁ =
      record {
        whole = whole;
        some = omega arith;
        few = omega arith;
        low = λ x z hx hz m. let e = here x z hx (known_itself x z hx hz m) in omega arith;
        zero = λ x z hx hz e. (itself x z hx hz (omega arith)).0;
      }

  left₁ : (x : ℕ) → x < pair_count → LeastLeft L₁ S₁ W₀ x
  left₁ x hx =
      record {
        below = λ z hz m.
            elim (dec_lt (length_of L₁ x z) no_length) [
              | yes h ↦ absurd (m (st.settles.has_it x z hx hz (itself x z hx hz h)))
              | no n ↦ let e = no_least x hx in omega arith
            ];
        from = λ h. let e = no_least x hx in absurd (omega arith);
      }

  reached₁ : (x : ℕ) → target_part x < A.states → Reached A links x x 0
  reached₁ x l = (l, (0, refl, leads_none))

  sound₁ : SoundLengths A links L₁
  sound₁ x z hx hz h =
      let (e, l) = itself x z hx hz h in
      let z₀ = here x z hx (e, l) in
      subst (Reached A links x z) (sym z₀) (subst (λ y. Reached A links x y 0) e (reached₁ x l))

  module _ (f₃ : Found) (u : Relaxed 1 (EmptyInside A links pair_count) f₁ f₃) where
    firm₃ : Firm 1 f₃
    firm₃ = firm_on u firm₁

    relax_reached : (x z k : ℕ) → x < pair_count → z < pair_count → EmptyInside A links pair_count x z k → Reached A links x z k
    relax_reached x z k hx hz (y, hy, l, (c, a)) =
        let e = (one_bit (target_part y) a.inside).0 a.has_it in
        let back : y ≡ most_states * form_part y + a.inside = omega arith in
        let inner = subst (λ w. Reached A links y w 0) back (reached₁ y l) in
        subst (Reached A links x z) (sym a.is)
        (wrap_reached A links y (form_part y) a.inside x z c hy (omega arith) (omega arith) hz inner a.wraps)

    sound₃ : SoundLengths A links f₃.lengths
    sound₃ x z hx hz h =
        ⊎_elim (λ e. rw e (sound₁ x z hx hz (rw e at h)))
        (λ w. relax_reached x z (length_of f₃.lengths x z) hx hz w.candidate) (u.falls x z hx hz)

    settled_zero : (x z : ℕ) → x < pair_count → z < pair_count → Member S₁ x z → length_of f₃.lengths x z ≡ 0
    settled_zero x z hx hz m =
        known_stays u firm₁ x z hx hz (settled_known x z hx hz m) ∙ here x z hx (settled_itself x z hx hz m)

    wrapped₃ : (y b r x z c : ℕ) → y < pair_count → IsFormState b → r < A.states → x < pair_count → z < pair_count →
        Member S₁ y (most_states * b + r) → Wraps A links y b r x z c →
        length_of f₃.lengths x z ≤ capped (length_of f₃.lengths y (most_states * b + r) + 1)
    wrapped₃ y b r x z c hy hb hr hx hz m w =
        let hi : most_states * b + r < pair_count = omega arith in
        let (e, l) = settled_itself y (most_states * b + r) hy hi m in
        let zero = settled_zero y (most_states * b + r) hy hi m in
        let eb : form_part y ≡ b = omega arith in
        let er : target_part y ≡ r = omega arith in
        let a : Around A links y (form_part y) (2 ^ target_part y) 1 x z 1 c = record {
          inside = r;
          has_it = (one_bit (target_part y) r).1 (sym er);
          inside_below = hr;
          wraps = rw eb w;
          is = refl;
        } in
        let met : length_of f₃.lengths x z ≤ 1 =
        ⊎_elim (λ h. h) (λ k. firm₃.low x z hx hz k) (u.met x z 1 hx hz (y, hy, l, (c, a))) in
        omega arith

    pub searched_begun : Searched A links S₁ T₁ F₀ f₃ 0
    searched_begun =
        record {
          whole = u.whole whole;
          settled_long = settled_long;
          into_long = into_long;
          fresh_long = fresh_long;
          fresh_empty = λ x z hx hz. none_member F₀ no-fresh x z;
          sound = sound₃;
          low = firm₃.low;
          settled_known = λ x z hx hz m. u.kept x z (settled_known x z hx hz m);
          turned = λ x z hx hz. (
            λ m. st.turns.has_it z x hz hx (turned_round x z (settled_itself x z hx hz m)),
            λ m. st.settles.has_it x z hx hz (turned_round z x (into_itself z x hz hx m)),
          );
          left = λ x hx. left_on u firm₁ S₁ settled_known x hx (left₁ x hx);
          from_on = λ x hx. omega arith;
          stays = λ x hx l.
              let m = st.settles.has_it x x hx hx (refl, l) in
              (m, settled_zero x x hx hx m);
          joined = λ x y z hx hy hz m n.
              let (e, _) = settled_itself x y hx hy m in
              let k = settled_zero y z hy hz n in
              let goal : length_of f₃.lengths x z ≡ 0 = subst (λ w. length_of f₃.lengths w z ≡ 0) (sym e) k in
              omega arith;
          wrapped = wrapped₃;
        }
