-- What is new is used: what stays true while it is, what may be joined, and the candidates of the turns together.
use mathlib.Core.Path.{◌≡◌, refl, sym, ◌∙◌}
use mathlib.Core.Logic.{◌⊎◌, inl, inr, ⊎_elim}
use mathlib.Core.List.{List}
use Prim.Native.Nat.{ℕ, ◌+◌, ◌<◌, ◌≤◌}
use native.Mathlib.Omega.{arith}
use Rattle.automata.specs.Target.{Target}
use Rattle.automata.specs.TargetBody.{most_states}
use Rattle.relaxation.specs.Inner.Pairs.{pair_count, pair_of}
use Rattle.relaxation.specs.Inner.PairSet.{Member, NextMember}
use Rattle.relaxation.specs.Inner.Lengths.{length_of, capped}
use Rattle.relaxation.specs.Inner.Relaxation.{Firm, Relaxed, Joins}
use Rattle.relaxation.specs.declared.found.Found.{Found}
use Rattle.rounds.specs.Inner.Used.{AllKnown, AllInto, Usable, RowsNoted, UseInside, UseAhead, UseBehind, UseRow, UseRows}
use Rattle.relaxation.proofs.Relaxing.{Candidate, known_stays, relaxed_then}
use Rattle.relaxation.proofs.RelaxTurns.{Passed, turns_more, turns_skip_to, turns_all}
use Rattle.relaxation.proofs.PairLaws.{form_of_lem, target_of_lem, pair_below}

-- relaxing keeps what can be used
module _ {next : ℕ} {P : Candidate} {f g : Found} (u : Relaxed next P f g) where
  -- and the sums
  sum_stays : Firm next f → (x y z : ℕ) → x < pair_count → y < pair_count → z < pair_count → Member f.known x y → Member f.known y z →
      capped (length_of g.lengths x y + length_of g.lengths y z) ≡ capped (length_of f.lengths x y + length_of f.lengths y z)
  sum_stays i x y z hx hy hz m n = rw (known_stays u i x y hx hy m, known_stays u i y z hy hz n)

  module _ {fresh : List ℕ} (a : Usable next fresh f) (x : ℕ) (hx : x < pair_count) where
    module _ {settled : List ℕ} (s : AllKnown settled f) where
      ahead_stays : (y z : ℕ) → y < pair_count → z < pair_count → Member fresh x y → Member settled y z →
          capped (length_of g.lengths x y + length_of g.lengths y z) ≡ capped (length_of f.lengths x y + length_of f.lengths y z)
      ahead_stays y z hy hz m n = sum_stays a.firm x y z hx hy hz (a.all.known x y hx hy m) (s.known y z hy hz n)

      ahead_to : (x' z' k' : ℕ) → z' < pair_count → UseAhead g.lengths settled fresh x x' z' k' →
          UseAhead f.lengths settled fresh x x' z' k'
      ahead_to x' z' k' hz (ex, (y, l, m, n, ek)) = (ex, (y, l, m, n, ek ∙ ahead_stays y z' l hz m n))

      ahead_back : (x' z' k' : ℕ) → z' < pair_count → UseAhead f.lengths settled fresh x x' z' k' →
          UseAhead g.lengths settled fresh x x' z' k'
      ahead_back x' z' k' hz (ex, (y, l, m, n, ek)) = (ex, (y, l, m, n, ek ∙ sym (ahead_stays y z' l hz m n)))

    module _ {into : List ℕ} (i : AllInto into f) where
      behind_stays : (w z : ℕ) → w < pair_count → z < pair_count → Member into x w → Member fresh x z →
          capped (length_of g.lengths w x + length_of g.lengths x z) ≡ capped (length_of f.lengths w x + length_of f.lengths x z)
      behind_stays w z hw hz m n = sum_stays a.firm w x z hw hx hz (i.known x w hx hw m) (a.all.known x z hx hz n)

      behind_to : (x' z' k' : ℕ) → x' < pair_count → z' < pair_count → UseBehind g.lengths into fresh x x' z' k' →
          UseBehind f.lengths into fresh x x' z' k'
      behind_to x' z' k' hx' hz (m, n, ek) = (m, n, ek ∙ behind_stays x' z' hx' hz m n)

      behind_back : (x' z' k' : ℕ) → x' < pair_count → z' < pair_count → UseBehind f.lengths into fresh x x' z' k' →
          UseBehind g.lengths into fresh x x' z' k'
      behind_back x' z' k' hx' hz (m, n, ek) = (m, n, ek ∙ sym (behind_stays x' z' hx' hz m n))

-- a sum is at least `next` where one part and 1 are `next`, and the other part is not 0
pub sum_from : (next a b : ℕ) → capped (a + 1) ≡ next → ¬ (b ≡ 0) → next ≤ capped (a + b)
sum_from next a b e n = omega arith

pub sum_from_too : (next a b : ℕ) → capped (b + 1) ≡ next → ¬ (a ≡ 0) → next ≤ capped (a + b)
sum_from_too next a b e n = omega arith

-- the turns ahead: what is new in row x, one after the other
module _ (settled fresh lengths : List ℕ) (x : ℕ) where
  pub AheadTurn : ℕ → ℕ → ℕ → ℕ → Type 0
  AheadTurn y x' z' k' = Member fresh x y × Joins lengths settled x y x' z' k'

  pub ahead_all : {next : ℕ} {f g : Found} → Relaxed next (Passed AheadTurn pair_count) f g →
      Relaxed next (UseAhead lengths settled fresh x) f g
  unfolding AheadTurn
  ahead_all u =
      turns_all AheadTurn pair_count u
      (λ x' z' k' y hx hz l (m, (ex, s, ek)). (ex, (y, l, m, s, ek)))
      (λ x' z' k' hx hz (ex, (y, l, m, s, ek)). (y, l, (m, (ex, s, ek))))

module _ (settled fresh : List ℕ) (x : ℕ) (hx : x < pair_count) {next : ℕ} {f g : Found} (y : ℕ)
    (u : Relaxed next (Passed (AheadTurn settled fresh f.lengths x) y) f g) where
  pub ahead_more : {h : Found} → y < pair_count → Usable next fresh f → AllKnown settled f → Member fresh x y →
      Relaxed next (Joins g.lengths settled x y) g h → Relaxed next (Passed (AheadTurn settled fresh f.lengths x) (y + 1)) f h
  unfolding AheadTurn
  ahead_more hy a s m v =
      turns_more (AheadTurn settled fresh f.lengths x) y u v
      (λ x' z' k' hx' hz (ex, n, ek). (m, (ex, n, ek ∙ ahead_stays u a x hx s y z' hy hz m n)))
      (λ x' z' k' hx' hz (d, (ex, n, ek)). (ex, n, ek ∙ sym (ahead_stays u a x hx s y z' hy hz m n)))

-- no turn between a member and the next
pub ahead_next : (settled fresh lengths : List ℕ) (x : ℕ) {next : ℕ} {f g : Found} (i j : ℕ) → NextMember fresh x i j →
    Relaxed next (Passed (AheadTurn settled fresh lengths x) i) f g → Relaxed next (Passed (AheadTurn settled fresh lengths x) j) f g
unfolding AheadTurn
ahead_next settled fresh lengths x i j n u =
    turns_skip_to (AheadTurn settled fresh lengths x) i j n.from_on u (λ k x' z' k' l h hx hz (m, t). n.none k l h m)

-- the turns behind: what leads to x, one after the other
module _ (into fresh lengths : List ℕ) (x : ℕ) where
  pub BehindTurn : ℕ → ℕ → ℕ → ℕ → Type 0
  BehindTurn w x' z' k' = Member into x w × Joins lengths fresh w x x' z' k'

  pub behind_all : {next : ℕ} {f g : Found} → Relaxed next (Passed BehindTurn pair_count) f g →
      Relaxed next (UseBehind lengths into fresh x) f g
  unfolding BehindTurn
  behind_all u =
      turns_all BehindTurn pair_count u
      (λ x' z' k' w hx hz l (m, (ex, n, ek)). rw ex (m, n, ek))
      (λ x' z' k' hx hz (m, n, ek). (x', hx, (m, (refl, n, ek))))

module _ (into fresh : List ℕ) (x : ℕ) (hx : x < pair_count) {next : ℕ} {f g : Found} (w : ℕ)
    (u : Relaxed next (Passed (BehindTurn into fresh f.lengths x) w) f g) where
  pub behind_more : {h : Found} → w < pair_count → Usable next fresh f → AllInto into f → Member into x w →
      Relaxed next (Joins g.lengths fresh w x) g h → Relaxed next (Passed (BehindTurn into fresh f.lengths x) (w + 1)) f h
  unfolding BehindTurn
  behind_more hw a i m v =
      turns_more (BehindTurn into fresh f.lengths x) w u v
      (λ x' z' k' hx' hz (ex, n, ek). (m, (ex, n, ek ∙ behind_stays u a x hx i w z' hw hz m n)))
      (λ x' z' k' hx' hz (d, (ex, n, ek)). (ex, n, ek ∙ sym (behind_stays u a x hx i w z' hw hz m n)))

pub behind_next : (into fresh lengths : List ℕ) (x : ℕ) {next : ℕ} {f g : Found} (i j : ℕ) → NextMember into x i j →
    Relaxed next (Passed (BehindTurn into fresh lengths x) i) f g → Relaxed next (Passed (BehindTurn into fresh lengths x) j) f g
unfolding BehindTurn
behind_next into fresh lengths x i j n u =
    turns_skip_to (BehindTurn into fresh lengths x) i j n.from_on u (λ k x' z' k' l h hx hz (m, t). n.none k l h m)

-- a row: inside, ahead and behind
module _ (A : Target) (links : List ℕ) {next : ℕ} {settled into fresh : List ℕ} {f : Found} (a : Usable next fresh f)
    (s : AllKnown settled f) (i : AllInto into f) (x : ℕ) (hx : x < pair_count) where
  inside_ahead : {g h : Found} → Relaxed next (UseInside A links fresh next x) f g →
      Relaxed next (UseAhead g.lengths settled fresh x) g h →
      Relaxed next (λ x' z' k'. UseInside A links fresh next x x' z' k' ⊎ UseAhead f.lengths settled fresh x x' z' k') f h
  inside_ahead u v =
      relaxed_then u v (λ x' z' k' hx' hz. inl) (λ x' z' k' hx' hz t. inr (ahead_to u a x hx s x' z' k' hz t))
      (λ x' z' k' hx' hz. ⊎_elim inl (λ t. inr (inl (ahead_back u a x hx s x' z' k' hz t))))

  pub row_all : {g h e : Found} → Relaxed next (UseInside A links fresh next x) f g →
      Relaxed next (UseAhead g.lengths settled fresh x) g h → Relaxed next (UseBehind h.lengths into fresh x) h e →
      Relaxed next (UseRow A links f.lengths settled fresh into next x) f e
  row_all u v w =
      let both = inside_ahead u v in
      relaxed_then both w
      (λ x' z' k' hx' hz. ⊎_elim inl (λ t. inr (inl t)))
      (λ x' z' k' hx' hz t. inr (inr (behind_to both a x hx i x' z' k' hx' hz t)))
      (λ x' z' k' hx' hz.
      ⊎_elim (λ t. inl (inl t)) (⊎_elim (λ t. inl (inr t)) (λ t. inr (inl (behind_back both a x hx i x' z' k' hx' hz t)))))

-- the rows
module _ (A : Target) (links settled into fresh : List ℕ) (next : ℕ) (lengths : List ℕ) where
  pub RowTurn : ℕ → ℕ → ℕ → ℕ → Type 0
  RowTurn x x' z' k' = UseRow A links lengths settled fresh into next x x' z' k'

  pub rows_all : {f g : Found} → Relaxed next (Passed RowTurn pair_count) f g →
      Relaxed next (UseRows A links lengths settled fresh into next pair_count) f g
  unfolding RowTurn
  rows_all u = u

-- a row with nothing new has no candidate
row_none : (A : Target) (links lengths settled into fresh : List ℕ) (next x : ℕ) → A.states ≤ most_states →
    ((z : ℕ) → z < pair_count → ¬ Member fresh x z) → (x' z' k' : ℕ) → z' < pair_count →
    ¬ UseRow A links lengths settled fresh into next x x' z' k'
row_none A links lengths settled into fresh next x few none x' z' k' hz =
    ⊎_elim
    (λ (b, hb, (c, t)).
    let l : t.inside < most_states = let j = t.inside_below in omega arith in
    none (pair_of b t.inside) (pair_below b t.inside hb l) (rw (form_of_lem b t.inside l, target_of_lem b t.inside l) t.has_it))
    (⊎_elim (λ (ex, (y, l, m, n, ek)). none y l m) (λ (m, n, ek). none z' hz n))

module _ (A : Target) (links settled into fresh : List ℕ) {next : ℕ} {f g : Found} (x : ℕ) (hx : x < pair_count)
    (u : Relaxed next (Passed (RowTurn A links settled into fresh next f.lengths) x) f g) where
  pub rows_more : {h : Found} → Usable next fresh f → AllKnown settled f → AllInto into f →
      Relaxed next (UseRow A links g.lengths settled fresh into next x) g h →
      Relaxed next (Passed (RowTurn A links settled into fresh next f.lengths) (x + 1)) f h
  unfolding RowTurn
  rows_more a s i v =
      turns_more (RowTurn A links settled into fresh next f.lengths) x u v
      (λ x' z' k' hx' hz.
      ⊎_elim inl
      (⊎_elim (λ t. inr (inl (ahead_to u a x hx s x' z' k' hz t))) (λ t. inr (inr (behind_to u a x hx i x' z' k' hx' hz t)))))
      (λ x' z' k' hx' hz.
      ⊎_elim inl
      (⊎_elim (λ t. inr (inl (ahead_back u a x hx s x' z' k' hz t))) (λ t. inr (inr (behind_back u a x hx i x' z' k' hx' hz t)))))

pub rows_next : (A : Target) (links settled into fresh rows lengths : List ℕ) {next : ℕ} {f g : Found} → A.states ≤ most_states →
    RowsNoted fresh rows → (i j : ℕ) → NextMember rows 0 i j →
    Relaxed next (Passed (RowTurn A links settled into fresh next lengths) i) f g →
    Relaxed next (Passed (RowTurn A links settled into fresh next lengths) j) f g
unfolding RowTurn
rows_next A links settled into fresh rows lengths {next} few told i j n u =
    turns_skip_to (RowTurn A links settled into fresh next lengths) i j n.from_on u
    (λ k x' z' k' l h hx hz.
    let hk : k < pair_count = let w = n.within in omega arith in
    row_none A links lengths settled into fresh next k few (λ z hz' m. n.none k l h (told k z hk hz' m)) x' z' k' hz)
