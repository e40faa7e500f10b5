-- One round: what is settled, used and put aside keeps what is known between two rounds.
use mathlib.Core.Path.{◌≡◌, refl, sym, ◌∙◌, ap, ap₂, subst}
use mathlib.Core.Logic.{◌⊎◌, inl, inr, ⊎_elim}
use mathlib.Core.List.{List}
use Prim.Native.Nat.{ℕ, ◌+◌, ◌*◌, ◌<◌, ◌≤◌}
use native.Mathlib.Omega.{arith}
use native.Mathlib.Decide.{ℕ_discrete, dec_lt}
use lib.ListN.{get_or}
use Rattle.automata.specs.Target.{Target}
use Rattle.automata.specs.TargetBody.{most_states}
use Rattle.automata.specs.Inner.FormState.{IsFormState}
use Rattle.relaxation.specs.Inner.Pairs.{pair_count, pair_of}
use Rattle.relaxation.specs.Inner.PairSet.{mask_index, Member}
use Rattle.relaxation.specs.Inner.Lengths.{length_of, length_cap, capped, no_length}
use Rattle.relaxation.specs.Inner.Wraps.{Wraps}
use Rattle.relaxation.specs.Inner.Relaxation.{found, Whole, Firm, Relaxed, Around}
use Rattle.relaxation.specs.declared.found.Found.{Found}
use Rattle.rounds.specs.Inner.Settled.{Due, LeastLeft, RowsSettled, LeastRow}
use Rattle.rounds.specs.Inner.Used.{AllKnown, AllInto, Usable, RowsNoted, UseInside, UseRow, UseRows}
use Rattle.rounds.specs.Inner.Forgotten.{RowsForgotten}
use Rattle.lengths.specs.Inner.Search.{member_count, SoundLengths, Searched, RoundDone}
use Rattle.lengths.proofs.LeadsLaws.{Reached, sum_reached, wrap_reached, sound_capped, sound_zero}
use Rattle.relaxation.proofs.Relaxing.{lengths_fall, known_stays, firm_on}
use Rattle.relaxation.proofs.PairLaws.{word_member, member_word}
use Rattle.lengths.proofs.CountLaws.{gains_more}
use Rattle.rounds.proofs.UsingLaws.{sum_from, sum_from_too}

-- the least length left in a row, after lengths are relaxed
pub left_on : {next : ℕ} {P : ℕ → ℕ → ℕ → Type 0} {f g : Found} → Relaxed next P f g → Firm next f → (S : List ℕ) →
    ((x z : ℕ) → x < pair_count → z < pair_count → Member S x z → Member f.known x z) → (x : ℕ) → x < pair_count →
    LeastLeft f.lengths S f.least x → LeastLeft g.lengths S g.least x
left_on {f = f} {g = g} u firm S known x hx old =
    record {
      below = λ z hz m.
          ⊎_elim (λ e. let a = old.below z hz m in let b = u.least_falls x hx in omega arith)
          (λ w. u.least_below x z hx hz w.less) (u.falls x z hx hz);
      from = λ h.
          ⊎_elim
          (λ e.
          let (z, hz, m, d) = old.from (omega arith) in (
            z,
            hz,
            m,
            ⊎_elim (λ s. s ∙ d ∙ sym e)
                (λ w. let a = u.least_below x z hx hz w.less in let b = w.less in absurd (omega arith)) (u.falls x z hx hz),
          ))
          (λ (z, hz, a, d). (z, hz, (λ m. let s = known_stays u firm x z hx hz (known x z hx hz m) in omega arith), d))
          (u.least_from x hx);
    }

-- tables whose lengths are those of a list
pub as_found : {L : List ℕ} {f : Found} → f.lengths ≡ L → found L f.least f.known ≡ f
as_found {f = f} e = ap (λ v. found v f.least f.known) (sym e)

-- A round so far: what was known before it, that l is the least length left, and what was settled for it.
pub record RoundBegun (A : Target) (links S T F : List ℕ) (f : Found) (l : ℕ) (W₂ S₂ K₂ F₂ rows₀ rows : List ℕ) : Type 0 where
  pub few : A.states ≤ most_states
  pub so_far : Searched A links S T F f l
  pub row : LeastRow f.least l
  pub settled : RowsSettled f.lengths pair_count l f.least S f.known F W₂ S₂ K₂ F₂ rows₀ rows

pub round_begun : {A : Target} {links S T F : List ℕ} {f : Found} {l : ℕ} {W₂ S₂ K₂ F₂ rows₀ rows : List ℕ} → A.states ≤ most_states →
    Searched A links S T F f l → LeastRow f.least l →
    RowsSettled f.lengths pair_count l f.least S f.known F W₂ S₂ K₂ F₂ rows₀ rows →
    RoundBegun A links S T F f l W₂ S₂ K₂ F₂ rows₀ rows
round_begun few so_far row settled = record { few = few; so_far = so_far; row = row; settled = settled }

module _ {A : Target} {links S T F : List ℕ} {f : Found} {l : ℕ} {W₂ S₂ K₂ F₂ rows₀ rows : List ℕ}
    (now : RoundBegun A links S T F f l W₂ S₂ K₂ F₂ rows₀ rows) where
  abbrev L : List ℕ
  L = f.lengths

  abbrev next : ℕ
  next = capped (l + 1)

  abbrev f₂ : Found
  f₂ = found L W₂ K₂

  -- in a row whose least length is l, a pair that is settled now
  due_found : (x : ℕ) × (x < pair_count) × (get_or f.least x 0 ≡ l) × ((z : ℕ) × (z < pair_count) × Due L S l x z)
  due_found =
      let (x, hx, e) = now.row.from in
      let some = now.row.some in
      let (z, hz, n, d) = (now.so_far.left x hx).from (omega arith) in
      (x, hx, e, (z, hz, (d ∙ e, n)))

  pub level_capped : l ≤ length_cap
  level_capped =
      let (x, hx, e, (z, hz, (d, n))) = due_found in
      let k = sound_capped A links L now.so_far.sound x z hx hz (omega arith) in
      omega arith

  -- what is new has length l, and is settled and known
  fresh_due : (x z : ℕ) → x < pair_count → z < pair_count → Member F₂ x z → (x < pair_count) × (get_or f.least x 0 ≡ l) × Due L S l x z
  fresh_due x z hx hz m =
      ⊎_elim (λ o. absurd (now.so_far.fresh_empty x z hx hz o)) (λ d. d) (now.settled.freshens.either x z hx hz m)

  fresh_length : (x z : ℕ) → x < pair_count → z < pair_count → Member F₂ x z → length_of L x z ≡ l
  fresh_length x z hx hz m = (fresh_due x z hx hz m).2.0

  fresh_settled : (x z : ℕ) → x < pair_count → z < pair_count → Member F₂ x z → Member S₂ x z
  fresh_settled x z hx hz m = now.settled.settles.has_it x z hx hz (fresh_due x z hx hz m)

  settled_either : (x z : ℕ) → x < pair_count → z < pair_count → Member S₂ x z → Member S x z ⊎ Member F₂ x z
  settled_either x z hx hz m =
      ⊎_elim inl (λ d. inr (now.settled.freshens.has_it x z hx hz d)) (now.settled.settles.either x z hx hz m)

  settled_known : (x z : ℕ) → x < pair_count → z < pair_count → Member S₂ x z → Member K₂ x z
  settled_known x z hx hz m =
      ⊎_elim (λ o. now.settled.knows.kept x z (now.so_far.settled_known x z hx hz o))
      (λ d. now.settled.knows.has_it x z hx hz d) (now.settled.settles.either x z hx hz m)

  pub whole₂ : Whole f₂
  whole₂ =
      record {
        lengths = now.so_far.whole.lengths;
        least = now.settled.long ∙ now.so_far.whole.least;
        known = now.settled.knows.long ∙ now.so_far.whole.known;
      }

  firm₂ : Firm next f₂
  firm₂ =
      record {
        whole = whole₂;
        some = omega arith;
        few = omega arith;
        low = λ x z hx hz m.
            ⊎_elim (λ o. now.so_far.low x z hx hz o)
            (λ d. let e = d.2.0 in let c = level_capped in omega arith)
            (now.settled.knows.either x z hx hz m);
        zero = sound_zero A links L now.so_far.sound;
      }

  pub usable₂ : Usable next F₂ f₂
  usable₂ =
      record {
        firm = firm₂;
        all = record {
          long = now.settled.freshens.long ∙ now.so_far.fresh_long;
          known = λ x z hx hz m. settled_known x z hx hz (fresh_settled x z hx hz m);
        };
        last = λ x z hx hz m. ap (λ n. capped (n + 1)) (fresh_length x z hx hz m);
      }

  pub known₂ : AllKnown S₂ f₂
  known₂ = record { long = now.settled.settles.long ∙ now.so_far.settled_long; known = settled_known }

  pub into₂ : AllInto T f₂
  into₂ =
      record {
        long = now.so_far.into_long;
        known = λ x w hx hw m.
            now.settled.knows.kept w x (now.so_far.settled_known w x hw hx ((now.so_far.turned w x hw hx).1 m));
      }

  pub noted₂ : RowsNoted F₂ rows
  noted₂ x z hx hz m = let d = fresh_due x z hx hz m in now.settled.noted.has_it 0 x (omega arith) hx (refl, hx, d.1)

  -- the least length left in each row
  left₂ : (x : ℕ) → x < pair_count → LeastLeft L S₂ W₂ x
  left₂ x hx =
      elim (ℕ_discrete (get_or f.least x 0) l) [
        | yes e ↦ now.settled.left x hx hx e
        | no n ↦
            let same = now.settled.others x (inr n) in
            let old = now.so_far.left x hx in
            let still : (z : ℕ) → z < pair_count → Member S₂ x z → Member S x z =
            λ z hz m. ⊎_elim (λ o. o) (λ d. absurd (n d.1)) (now.settled.settles.either x z hx hz m) in
            record {
              below = λ z hz m. rw same (old.below z hz (λ o. m (now.settled.settles.kept x z o)));
              from = λ h.
                  let (z, hz, m, d) = old.from (rw same at h) in
                  (z, hz, (λ k. m (still z hz k)), d ∙ sym same);
            }
      ]

  from₂ : (x : ℕ) → x < pair_count → l ≤ get_or W₂ x 0
  from₂ x hx =
      elim (dec_lt (get_or W₂ x 0) no_length) [
        | no n ↦ omega arith
        | yes h ↦
            let (z, hz, m, d) = (left₂ x hx).from h in
            let b = (now.so_far.left x hx).below z hz (λ o. m (now.settled.settles.kept x z o)) in
            let c = now.row.below x hx in
            omega arith
      ]

  pub more₂ : member_count S < member_count S₂
  more₂ =
      let (x, hx, e, (z, hz, d)) = due_found in
      gains_more now.settled.settles now.so_far.settled_long x z hx hz (hx, e, d) d.1

  -- in the code's words: the tables are a value that they make up
  pub with_found : {g : Found} → f₂ ≡ g → Usable next F₂ g × AllKnown S₂ g × AllInto T g
  with_found d = subst (λ g. Usable next F₂ g × AllKnown S₂ g × AllInto T g) d (usable₂, known₂, into₂)

  -- the round's sum is `next`, and what leads to a pair is the same
  pub as_next : (k : ℕ) → k ≡ next → (g f₃ : Found) → f₂ ≡ g → (T' : List ℕ) → T' ≡ T →
      Relaxed k (UseRows A links g.lengths S₂ F₂ T' k pair_count) g f₃ → Relaxed next (UseRows A links L S₂ F₂ T next pair_count) f₂ f₃
  as_next k e g f₃ d T' t v =
      subst (λ n. Relaxed n (UseRows A links L S₂ F₂ T n pair_count) f₂ f₃) e
      (subst (λ h. Relaxed k (UseRows A links h.lengths S₂ F₂ T k pair_count) h f₃) (sym d)
      (subst (λ t. Relaxed k (UseRows A links g.lengths S₂ F₂ t k pair_count) g f₃) t v))

  -- after lengths are relaxed
  module _ (f₃ : Found) (u : Relaxed next (UseRows A links L S₂ F₂ T next pair_count) f₂ f₃) where
    abbrev L₃ : List ℕ
    L₃ = f₃.lengths

    firm₃ : Firm next f₃
    firm₃ = firm_on u firm₂

    settled_stays : (x z : ℕ) → x < pair_count → z < pair_count → Member S₂ x z → length_of L₃ x z ≡ length_of L x z
    settled_stays x z hx hz m = known_stays u firm₂ x z hx hz (settled_known x z hx hz m)

    -- a length that is settled has a forest
    reached : (x z : ℕ) → x < pair_count → z < pair_count → Member S₂ x z → Reached A links x z (length_of L x z)
    reached x z hx hz m =
        let a = firm₂.low x z hx hz (settled_known x z hx hz m) in
        now.so_far.sound x z hx hz (omega arith)

    into_settled : (x w : ℕ) → x < pair_count → w < pair_count → Member T x w → Member S₂ w x
    into_settled x w hx hw m = now.settled.settles.kept w x ((now.so_far.turned w x hw hx).1 m)

    -- every candidate has a forest
    inside_reached : (x x' z' k' : ℕ) → x < pair_count → z' < pair_count → UseInside A links F₂ next x x' z' k' → Reached A links x' z' k'
    inside_reached x x' z' k' hx hz (b, hb, (c, a)) =
        let hr : a.inside < most_states = (let i = a.inside_below in omega arith) in
        let hy : pair_of b a.inside < pair_count = omega arith in
        let m = word_member F₂ x b a.inside hr a.has_it in
        let i = reached x (pair_of b a.inside) hx hy (fresh_settled x (pair_of b a.inside) hx hy m) in
        let w = wrap_reached A links x b a.inside x' z' c hx hb hr hz i a.wraps in
        let e : capped (length_of L x (pair_of b a.inside) + 1) ≡ k' =
        ap (λ n. capped (n + 1)) (fresh_length x (pair_of b a.inside) hx hy m) ∙ sym a.is in
        subst (Reached A links x' z') e w

    relax_reached : (x x' z' k' : ℕ) → x < pair_count → x' < pair_count → z' < pair_count → UseRow A links L S₂ F₂ T next x x' z' k' →
        Reached A links x' z' k'
    relax_reached x x' z' k' hx hx' hz' o =
        ⊎_elim (inside_reached x x' z' k' hx hz')
        (⊎_elim
        (λ (e, (y, hy, m, n, d)).
        let v = sum_reached A links x y z' (reached x y hx hy (fresh_settled x y hx hy m)) (reached y z' hy hz' n) in
        rw e (subst (Reached A links x z') (sym d) v))
        (λ (m, n, d).
        let v = sum_reached A links x' x z' (reached x' x hx' hx (into_settled x x' hx hx' m))
        (reached x z' hx hz' (fresh_settled x z' hx hz' n)) in
        subst (Reached A links x' z') (sym d) v))
        o

    sound₃ : SoundLengths A links L₃
    sound₃ x z hx hz h =
        ⊎_elim (λ e. rw e (now.so_far.sound x z hx hz (rw e at h)))
        (λ w. let (y, hy, o) = w.candidate in relax_reached y x z (length_of L₃ x z) hy hx hz o)
        (u.falls x z hx hz)

    left₃ : (x : ℕ) → x < pair_count → LeastLeft L₃ S₂ f₃.least x
    left₃ x hx = left_on u firm₂ S₂ settled_known x hx (left₂ x hx)

    from₃ : (x : ℕ) → x < pair_count → l ≤ get_or f₃.least x 0
    from₃ x hx =
        ⊎_elim (λ e. let a = from₂ x hx in omega arith)
        (λ (z, hz, a, d).
        let c = level_capped in
        ⊎_elim (λ e. absurd (omega arith)) (λ w. let b = w.from in omega arith) (u.falls x z hx hz))
        (u.least_from x hx)

    -- a candidate is met, if it is not below `next`
    met : (x z k : ℕ) → x < pair_count → z < pair_count → UseRows A links L S₂ F₂ T next pair_count x z k → next ≤ k → length_of L₃ x z ≤ k
    met x z k hx hz o n =
        ⊎_elim (λ a. a) (λ m. let a = firm₃.low x z hx hz m in omega arith) (u.met x z k hx hz o)

    -- a sum of which one part is nothing
    cap_zero : (a b : ℕ) → a ≤ length_cap → b ≡ 0 → a ≤ capped (a + b)
    cap_zero a b h e = omega arith

    cap_zero' : (a b : ℕ) → a ≤ length_cap → b ≡ 0 → a ≤ capped (b + a)
    cap_zero' a b h e = omega arith

    settled_low : (x z : ℕ) → x < pair_count → z < pair_count → Member S₂ x z → length_of L x z ≤ length_cap
    settled_low x z hx hz m = let a = firm₂.low x z hx hz (settled_known x z hx hz m) in omega arith

    ahead : (x y z : ℕ) → x < pair_count → y < pair_count → z < pair_count → Member F₂ x y → Member S₂ y z →
        length_of L₃ x z ≤ capped (length_of L x y + length_of L y z)
    ahead x y z hx hy hz m n =
        elim (ℕ_discrete (length_of L y z) 0) [
          | yes e ↦
              let same = firm₂.zero y z hy hz e in
              let s = settled_stays x y hx hy (fresh_settled x y hx hy m) in
              let c = settled_low x y hx hy (fresh_settled x y hx hy m) in
              let goal : length_of L₃ x y ≤ capped (length_of L x y + length_of L y z) =
              subst (λ a. a ≤ capped (length_of L x y + length_of L y z)) (sym s) (cap_zero (length_of L x y) (length_of L y z) c e) in
              subst (λ a. length_of L₃ x a ≤ capped (length_of L x y + length_of L y z)) same goal
          | no d ↦
              met x z _ hx hz (x, hx, inr (inl (refl, (y, hy, m, n, refl))))
              (sum_from next (length_of L x y) (length_of L y z) (ap (λ n. capped (n + 1)) (fresh_length x y hx hy m)) d)
        ]

    behind : (x y z : ℕ) → x < pair_count → y < pair_count → z < pair_count → Member S x y → Member F₂ y z →
        length_of L₃ x z ≤ capped (length_of L x y + length_of L y z)
    behind x y z hx hy hz m n =
        elim (ℕ_discrete (length_of L x y) 0) [
          | yes e ↦
              let same = firm₂.zero x y hx hy e in
              let s = settled_stays y z hy hz (fresh_settled y z hy hz n) in
              let c = settled_low y z hy hz (fresh_settled y z hy hz n) in
              let goal : length_of L₃ y z ≤ capped (length_of L x y + length_of L y z) =
              subst (λ a. a ≤ capped (length_of L x y + length_of L y z)) (sym s) (cap_zero' (length_of L y z) (length_of L x y) c e) in
              subst (λ a. length_of L₃ a z ≤ capped (length_of L x y + length_of L y z)) (sym same) goal
          | no d ↦
              met x z _ hx hz (y, hy, inr (inr ((now.so_far.turned x y hx hy).0 m, n, refl)))
              (sum_from_too next (length_of L x y) (length_of L y z) (ap (λ n. capped (n + 1)) (fresh_length y z hy hz n)) d)
        ]

    joined₃ : (x y z : ℕ) → x < pair_count → y < pair_count → z < pair_count → Member S₂ x y → Member S₂ y z →
        length_of L₃ x z ≤ capped (length_of L₃ x y + length_of L₃ y z)
    joined₃ x y z hx hy hz m n =
        let goal : length_of L₃ x z ≤ capped (length_of L x y + length_of L y z) =
        ⊎_elim
        (λ a. ⊎_elim
        (λ b.
        let j = now.so_far.joined x y z hx hy hz a b in
        let k = lengths_fall u x z hx hz in
        omega arith)
        (λ b. behind x y z hx hy hz a b)
        (settled_either y z hy hz n))
        (λ a. ahead x y z hx hy hz a n)
        (settled_either x y hx hy m) in
        let e = ap₂ (λ a b. capped (a + b)) (settled_stays x y hx hy m) (settled_stays y z hy hz n) in
        subst (λ a. length_of L₃ x z ≤ a) (sym e) goal

    wrapped₃ : (y b r x z c : ℕ) → y < pair_count → IsFormState b → r < A.states → x < pair_count → z < pair_count →
        Member S₂ y (most_states * b + r) → Wraps A links y b r x z c →
        length_of L₃ x z ≤ capped (length_of L₃ y (most_states * b + r) + 1)
    wrapped₃ y b r x z c hy hb hr hx hz m w =
        let hi : most_states * b + r < pair_count = omega arith in
        let hr' : r < most_states = omega arith in
        let e = ap (λ a. capped (a + 1)) (settled_stays y (most_states * b + r) hy hi m) in
        subst (λ a. length_of L₃ x z ≤ a) (sym e)
        (⊎_elim
        (λ o.
        let j = now.so_far.wrapped y b r x z c hy hb hr hx hz o w in
        let k = lengths_fall u x z hx hz in
        omega arith)
        (λ o.
        let d = ap (λ a. capped (a + 1)) (fresh_length y (most_states * b + r) hy hi o) in
        let a : Around A links y b (get_or F₂ (mask_index y b) 0) next x z next c = record {
          inside = r;
          has_it = member_word F₂ y b r hr' o;
          inside_below = hr;
          wraps = w;
          is = refl;
        } in
        subst (λ k. length_of L₃ x z ≤ k) (sym d) (met x z next hx hz (y, hy, inl (b, hb, (c, a))) (omega arith)))
        (settled_either y (most_states * b + r) hy hi m))

    -- and put aside
    pub round_done : (F₄ T₄ : List ℕ) → RowsForgotten (λ x. (x < pair_count) × Member rows 0 x) F₂ T F₄ T₄ →
        member_count S < member_count S₂ → RoundDone A links S S₂ T₄ F₄ f₃ l
    round_done F₄ T₄ g t =
        record {
          searched = record {
            whole = u.whole whole₂;
            settled_long = known₂.long;
            into_long = g.turned.long ∙ now.so_far.into_long;
            fresh_long = g.long ∙ usable₂.all.long;
            fresh_empty = λ x z hx hz m. g.gone x z hx hz (hx, noted₂ x z hx hz (g.only x z hx hz m)) m;
            sound = sound₃;
            low = firm₃.low;
            settled_known = λ x z hx hz m. u.kept x z (settled_known x z hx hz m);
            turned = λ x z hx hz. (
              λ m. ⊎_elim (λ o. g.turned.kept z x ((now.so_far.turned x z hx hz).0 o))
                  (λ o. g.turned.has_it z x hz hx ((hx, noted₂ x z hx hz o), o)) (settled_either x z hx hz m),
              λ m. ⊎_elim (λ o. now.settled.settles.kept x z ((now.so_far.turned x z hx hz).1 o))
                  (λ (_, o). fresh_settled x z hx hz o) (g.turned.either z x hz hx m),
            );
            left = left₃;
            from_on = from₃;
            stays = λ x hx h.
                let (m, e) = now.so_far.stays x hx h in
                let m₂ = now.settled.settles.kept x x m in
                (m₂, settled_stays x x hx hx m₂ ∙ e);
            joined = joined₃;
            wrapped = wrapped₃;
          };
          more = t;
        }
