-- Laws of settling: what the turns passed leave of a row, and what the rows passed leave of the tables.
use mathlib.Core.Path.{◌≡◌, refl, sym, ◌∙◌}
use mathlib.Core.Logic.{inl, inr, ⊎_elim}
use mathlib.Core.List.{List}
use Prim.Native.Nat.{ℕ, ◌+◌, ◌<◌, ◌≤◌}
use native.Mathlib.Omega.{arith}
use native.Mathlib.Decide.{ℕ_discrete}
use lib.ListN.{length, get_or, set, length-set}
use lib.Seq.{get_or-set_same, get_or-set_other}
use Rattle.relaxation.specs.Inner.Pairs.{pair_count}
use Rattle.relaxation.specs.Inner.PairSet.{Member, Gains}
use Rattle.relaxation.specs.Inner.Lengths.{length_of, LeastOf}
use Rattle.rounds.specs.Inner.Settled.{Due, LeastLeft, RowSettled, RowsSettled}
use Rattle.relaxation.proofs.GainsLaws.{Passed, passed_more, passed_skip, gains_then, gains_as}
use Rattle.relaxation.proofs.LeastLaws.{least_more, least_keep}

-- The turn of a member in row x is that of its end. What a row gains, and what is left there:
abbrev second : ℕ → ℕ → ℕ
second x z = z

abbrev RowDue : List ℕ → List ℕ → ℕ → ℕ → ℕ → ℕ → Type 0
RowDue lengths settled l x x' z = (x' ≡ x) × Due lengths settled l x z

abbrev Remains : List ℕ → List ℕ → ℕ → ℕ → ℕ → Type 0
Remains lengths settled l x z = (¬ Member settled x z) × ¬ (length_of lengths x z ≡ l)

-- Row x was settled for length l up to n, and k is the least length that is left there.
pub record RowBelow (lengths : List ℕ) (x l : ℕ) (settled known fresh : List ℕ) (n : ℕ) (settled' known' fresh' : List ℕ) (k : ℕ) :
    Type 0 where
  pub settles : Gains settled settled' (Passed second (RowDue lengths settled l x) n)
  pub knows : Gains known known' (Passed second (RowDue lengths settled l x) n)
  pub freshens : Gains fresh fresh' (Passed second (RowDue lengths settled l x) n)
  pub left : LeastOf (Remains lengths settled l x) (length_of lengths x) n k

module _ (lengths : List ℕ) (x l : ℕ) (settled known fresh : List ℕ) where
  abbrev D : ℕ → ℕ → Type 0
  D = RowDue lengths settled l x

  module _ (n : ℕ) {s k f : List ℕ} {w : ℕ} (b : RowBelow lengths x l settled known fresh n s k f w) (hx : x < pair_count)
      (hn : n < pair_count) where
    -- the turn's member is not there yet
    new_turn : ¬ Member s x n → ¬ Member settled x n
    new_turn h m = h (b.settles.kept x n m)

    old_turn : Member s x n → Member settled x n
    old_turn m = ⊎_elim (λ y. y) (λ (y, d). absurd (omega arith)) (b.settles.either x n hx hn m)

    skip : ¬ Due lengths settled l x n → {v : ℕ} → LeastOf (Remains lengths settled l x) (length_of lengths x) (n + 1) v →
        RowBelow lengths x l settled known fresh (n + 1) s k f v
    skip none left =
        let none' : (x' z : ℕ) → x' < pair_count → z < pair_count → z ≡ n → ¬ D x' z = λ x' z hx' hz e (d, y). none (rw e at y) in
        record {
          settles = passed_skip second D n b.settles none';
          knows = passed_skip second D n b.knows none';
          freshens = passed_skip second D n b.freshens none';
          left = left;
        }

    -- a turn that settles
    pub row_more : {s' k' f' : List ℕ} → ¬ Member s x n → length_of lengths x n ≡ l →
        Gains s s' (λ x' z. (x' ≡ x) × (z ≡ n)) → Gains k k' (λ x' z. (x' ≡ x) × (z ≡ n)) → Gains f f' (λ x' z. (x' ≡ x) × (z ≡ n)) →
        RowBelow lengths x l settled known fresh (n + 1) s' k' f' w
    row_more h e gs gk gf =
        let to : (x' z : ℕ) → x' < pair_count → z < pair_count → (x' ≡ x) × (z ≡ n) → (z ≡ n) × D x' z =
        λ x' z hx' hz (d, y). (y, (d, rw y (e, new_turn h))) in
        let back : (x' z : ℕ) → x' < pair_count → z < pair_count → z ≡ n → D x' z → (x' ≡ x) × (z ≡ n) = λ x' z hx' hz y (d, u). (d, y) in
        record {
          settles = passed_more second D n b.settles gs to back;
          knows = passed_more second D n b.knows gk to back;
          freshens = passed_more second D n b.freshens gf to back;
          left = least_keep (Remains lengths settled l x) (length_of lengths x) b.left (λ (m, y). absurd (y e));
        }

    -- a turn that leaves a length, below the least or not, and one whose length was settled before
    pub row_less : ¬ Member s x n → ¬ (length_of lengths x n ≡ l) → length_of lengths x n < w →
        RowBelow lengths x l settled known fresh (n + 1) s k f (length_of lengths x n)
    row_less h d y =
        skip (λ (e, m). d e) (least_more (Remains lengths settled l x) (length_of lengths x) b.left (new_turn h, d) y)

    pub row_other : ¬ (length_of lengths x n ≡ l) → w ≤ length_of lengths x n → RowBelow lengths x l settled known fresh (n + 1) s k f w
    row_other d y = skip (λ (e, m). d e) (least_keep (Remains lengths settled l x) (length_of lengths x) b.left (λ r. y))

    pub row_old : Member s x n → RowBelow lengths x l settled known fresh (n + 1) s k f w
    row_old m =
        skip (λ (e, y). y (old_turn m))
        (least_keep (Remains lengths settled l x) (length_of lengths x) b.left (λ (y, d). absurd (y (old_turn m))))

  -- the whole row, with its least length
  module _ {s k f : List ℕ} {w : ℕ} (b : RowBelow lengths x l settled known fresh pair_count s k f w) (hx : x < pair_count) where
    row_left : (least : List ℕ) → get_or least x 0 ≡ w → LeastLeft lengths s least x
    row_left least e =
        record {
          below = λ z hz m.
              let o : ¬ Member settled x z = λ y. m (b.settles.kept x z y) in
              rw e (b.left.below z hz (o, λ y. m (b.settles.has_it x z hx hz (hz, (refl, (y, o))))));
          from = λ h.
              ⊎_elim (λ y. absurd (omega arith))
              (λ (z, hz, (o, d), y).
              (z, hz, λ m. ⊎_elim o (λ (u, (v, t)). d t.0) (b.settles.either x z hx hz m), y ∙ sym e))
              b.left.from;
        }

    pub row_all : (least : List ℕ) → x < length least → RowSettled lengths x l least settled known fresh (set least x w) s k f
    row_all least h =
        record {
          settles = gains_as b.settles (λ x' z hx' hz (y, d). d) (λ x' z hx' hz d. (hz, d));
          knows = gains_as b.knows (λ x' z hx' hz (y, d). d) (λ x' z hx' hz d. (hz, d));
          freshens = gains_as b.freshens (λ x' z hx' hz (y, d). d) (λ x' z hx' hz d. (hz, d));
          long = length-set least x w;
          others = λ x' d. get_or-set_other least x x' w 0 d;
          left = row_left (set least x w) (get_or-set_same least x w 0 h);
        }

-- the least length of a row stays, where another row was settled
left_stays : {lengths s s' w w' : List ℕ} {P : ℕ → Type 0} (n x : ℕ) → x < pair_count → ¬ (x ≡ n) →
    Gains s s' (λ x' z. (x' ≡ n) × P z) → get_or w' x 0 ≡ get_or w x 0 → LeastLeft lengths s w x → LeastLeft lengths s' w' x
left_stays n x hx d g e b =
    record {
      below = λ z hz m. rw e (b.below z hz (λ o. m (g.kept x z o)));
      from = λ h.
          let y = b.from (rw e at h) in
          (y.0, y.1, λ o. ⊎_elim y.2 (λ p. d p.0) (g.either x y.0 hx y.1 o), y.3 ∙ sym e);
    }

-- what the rows below n gain
abbrev RowsDue : List ℕ → ℕ → List ℕ → List ℕ → ℕ → ℕ → ℕ → Type 0
RowsDue lengths l least settled n x z = (x < n) × (get_or least x 0 ≡ l) × Due lengths settled l x z

module _ (lengths : List ℕ) (l : ℕ) (least settled : List ℕ) where
  abbrev DueBelow : ℕ → ℕ → ℕ → Type 0
  DueBelow = RowsDue lengths l least settled

  module _ {t u : List ℕ} (n : ℕ) (a : Gains t u (DueBelow n)) where
    due_skip : ¬ (get_or least n 0 ≡ l) → Gains t u (DueBelow (n + 1))
    due_skip no_row =
        gains_as a (λ x z hx hz (y, e, d). (omega arith, e, d))
        (λ x z hx hz (y, e, d). elim (ℕ_discrete x n) [ yes q ↦ absurd (no_row (rw q at e)) | no o ↦ (omega arith, e, d) ])

    due_more : {s v : List ℕ} → n < pair_count → get_or least n 0 ≡ l → Gains settled s (DueBelow n) →
        Gains u v (λ x z. (x ≡ n) × Due lengths s l n z) → Gains t v (DueBelow (n + 1))
    due_more hn is g b =
        gains_then a b (λ x z hx hz (y, e, d). (omega arith, e, d))
        (λ x z hx hz (e, (d, m)). (omega arith, rw e is, rw e (d, λ o. m (g.kept n z o))))
        (λ x z hx hz (y, e, (d, m)).
        elim (ℕ_discrete x n) [
          | yes q ↦
              let m' : ¬ Member settled n z = rw q at m in
              inr (inl (q, (rw q at d, λ o. ⊎_elim m' (λ (i, f, p). absurd (omega arith)) (g.either n z hn hz o))))
          | no o ↦ inl (omega arith, e, (d, m))
        ])

module _ (lengths : List ℕ) (l : ℕ) (least settled known fresh : List ℕ) where
  module _ (n : ℕ) {w s k f r₀ r : List ℕ} (b : RowsSettled lengths n l least settled known fresh w s k f r₀ r) (hn : n < pair_count) where
    -- the least length of the turn's row is what it was
    same_least : get_or w n 0 ≡ get_or least n 0
    same_least = b.others n (inl (omega arith))

    -- a row that is not settled, and one that is
    pub rows_skip : ¬ (get_or w n 0 ≡ l) → RowsSettled lengths (n + 1) l least settled known fresh w s k f r₀ r
    rows_skip h =
        let no_row : ¬ (get_or least n 0 ≡ l) = λ e. h (same_least ∙ e) in
        record {
          settles = due_skip lengths l least settled n b.settles no_row;
          knows = due_skip lengths l least settled n b.knows no_row;
          freshens = due_skip lengths l least settled n b.freshens no_row;
          long = b.long;
          others = λ x y. b.others x (⊎_elim (λ i. inl (omega arith)) inr y);
          left = λ x y hx e.
              elim (ℕ_discrete x n) [ yes q ↦ absurd (no_row (rw q at e)) | no o ↦ b.left x (omega arith) hx e ];
          noted = gains_as b.noted (λ y x hy hx (a, i, e). (a, omega arith, e))
              (λ y x hy hx (a, i, e).
              elim (ℕ_discrete x n) [ yes q ↦ absurd (no_row (rw q at e)) | no o ↦ (a, omega arith, e) ]);
        }

    pub rows_more : {w' s' k' f' r' : List ℕ} → get_or w n 0 ≡ l → RowSettled lengths n l w s k f w' s' k' f' →
        Gains r r' (λ x z. (x ≡ 0) × (z ≡ n)) → RowsSettled lengths (n + 1) l least settled known fresh w' s' k' f' r₀ r'
    rows_more h v g =
        let is : get_or least n 0 ≡ l = sym same_least ∙ h in
        record {
          settles = due_more lengths l least settled n b.settles hn is b.settles v.settles;
          knows = due_more lengths l least settled n b.knows hn is b.settles v.knows;
          freshens = due_more lengths l least settled n b.freshens hn is b.settles v.freshens;
          long = v.long ∙ b.long;
          others = λ x y.
              v.others x (λ e. ⊎_elim (λ i. omega arith) (λ i. i (rw e is)) y) ∙
              b.others x (⊎_elim (λ i. inl (omega arith)) inr y);
          left = λ x y hx e.
              elim (ℕ_discrete x n) [
                | yes q ↦ rw q v.left
                | no o ↦ left_stays n x hx o v.settles (v.others x o) (b.left x (omega arith) hx e)
              ];
          noted = gains_then b.noted g (λ y x hy hx (a, i, e). (a, omega arith, e))
              (λ y x hy hx (a, e). (a, omega arith, rw e is))
              (λ y x hy hx (a, i, e).
              elim (ℕ_discrete x n) [ yes q ↦ inr (inl (a, q)) | no o ↦ inl (a, omega arith, e) ]);
        }
