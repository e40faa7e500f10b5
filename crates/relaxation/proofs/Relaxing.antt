-- Laws of relaxed lengths: with no candidate, one step after the other, and what stays as it is.
use mathlib.Core.Path.{◌≡◌, refl, sym, ◌∙◌, subst}
use mathlib.Core.Logic.{◌⊎◌, inl, inr, ⊎_elim}
use Prim.Native.Nat.{ℕ, ◌<◌, ◌≤◌}
use native.Mathlib.Omega.{arith}
use lib.ListN.{get_or}
use Rattle.relaxation.specs.Inner.Pairs.{pair_count}
use Rattle.relaxation.specs.Inner.PairSet.{Member}
use Rattle.relaxation.specs.Inner.Lengths.{length_of}
use Rattle.relaxation.specs.Inner.Relaxation.{Found, Firm, Fell, FellToLeast, Relaxed}

-- candidates: for x and z, a length k
abbrev pub Candidate : Type 1
Candidate = ℕ → ℕ → ℕ → Type 0

module _ {next : ℕ} {P : Candidate} {f g : Found} (u : Relaxed next P f g) where
  pub lengths_fall : (x z : ℕ) → x < pair_count → z < pair_count → length_of g.lengths x z ≤ length_of f.lengths x z
  lengths_fall x z hx hz = ⊎_elim (λ e. omega arith) (λ y. let l = y.less in omega arith) (u.falls x z hx hz)

  -- where a length is at most `next`, none was less
  pub low_stays : (x z : ℕ) → x < pair_count → z < pair_count → length_of f.lengths x z ≤ next →
      length_of g.lengths x z ≡ length_of f.lengths x z
  low_stays x z hx hz l =
      ⊎_elim (λ e. e) (λ y. let a = y.less in let b = y.from in absurd (omega arith)) (u.falls x z hx hz)

  -- what is known stays, and what is firm is firm
  pub known_stays : Firm next f → (x z : ℕ) → x < pair_count → z < pair_count → Member f.known x z →
      length_of g.lengths x z ≡ length_of f.lengths x z
  known_stays i x z hx hz m = low_stays x z hx hz (i.low x z hx hz m)

  pub firm_on : Firm next f → Firm next g
  firm_on i =
      record {
        whole = u.whole i.whole;
        some = i.some;
        few = i.few;
        low = λ x z hx hz m.
            ⊎_elim (λ o. subst (λ y. y ≤ next) (sym (known_stays i x z hx hz o)) (i.low x z hx hz o)) (λ l. l) (u.member x z hx hz m);
        zero = λ x z hx hz e.
            ⊎_elim (λ y. i.zero x z hx hz (sym y ∙ e)) (λ y. let a = y.from in let b = i.some in absurd (omega arith))
            (u.falls x z hx hz);
      }

module _ {next : ℕ} where
  -- there is no candidate but for what is known
  pub relaxed_known : {P : Candidate} (f : Found) → ((x z k : ℕ) → x < pair_count → z < pair_count → P x z k → Member f.known x z) →
      Relaxed next P f f
  relaxed_known f h =
      record {
        whole = λ w. w;
        falls = λ x z hx hz. inl refl;
        met = λ x z k hx hz p. inr (h x z k hx hz p);
        least_falls = λ x hx. omega arith;
        least_below = λ x z hx hz l. absurd (omega arith);
        least_from = λ x hx. inl refl;
        kept = λ x z m. m;
        member = λ x z hx hz m. inl m;
      }

  -- one after the other; what is a candidate of neither is known in between
  module _ {P Q R : Candidate} {f g h : Found} (u : Relaxed next P f g) (v : Relaxed next Q g h)
      (left : (x z k : ℕ) → x < pair_count → z < pair_count → P x z k → R x z k)
      (right : (x z k : ℕ) → x < pair_count → z < pair_count → Q x z k → R x z k)
      (all : (x z k : ℕ) → x < pair_count → z < pair_count → R x z k → P x z k ⊎ (Q x z k ⊎ Member g.known x z)) where
    then_falls : (x z : ℕ) → x < pair_count → z < pair_count →
        (length_of h.lengths x z ≡ length_of f.lengths x z) ⊎ Fell next R f h x z
    then_falls x z hx hz =
        ⊎_elim
        (λ e. ⊎_elim (λ d. inl (e ∙ d))
        (λ y. inr (record {
          less = subst (λ n. n < length_of f.lengths x z) (sym e) y.less;
          from = subst (λ n. next ≤ n) (sym e) y.from;
          candidate = subst (R x z) (sym e) (left x z _ hx hz y.candidate);
        }))
        (u.falls x z hx hz))
        (λ y.
        let a = y.less in
        let b = lengths_fall u x z hx hz in
        inr (record { less = omega arith; from = y.from; candidate = right x z _ hx hz y.candidate }))
        (v.falls x z hx hz)

    -- a length of row x fell in the one step or in the other
    then_below : (x z : ℕ) → x < pair_count → z < pair_count → length_of h.lengths x z < length_of f.lengths x z →
        get_or h.least x 0 ≤ length_of h.lengths x z
    then_below x z hx hz l =
        ⊎_elim
        (λ e.
        let a = u.least_below x z hx hz (omega arith) in
        let b = v.least_falls x hx in
        omega arith)
        (λ y. v.least_below x z hx hz y.less)
        (v.falls x z hx hz)

    then_from : (x : ℕ) → x < pair_count → (get_or h.least x 0 ≡ get_or f.least x 0) ⊎ FellToLeast f h x
    then_from x hx =
        ⊎_elim
        (λ e. ⊎_elim (λ d. inl (e ∙ d))
        (λ (z, hz, l, d).
        ⊎_elim (λ s. inr (z, hz, omega arith, s ∙ d ∙ sym e))
        (λ y. let a = y.less in let b = v.least_below x z hx hz a in absurd (omega arith))
        (v.falls x z hx hz))
        (u.least_from x hx))
        (λ (z, hz, l, d). let b = lengths_fall u x z hx hz in inr (z, hz, omega arith, d))
        (v.least_from x hx)

    pub relaxed_then : Relaxed next R f h
    relaxed_then =
        record {
          whole = λ w. v.whole (u.whole w);
          falls = then_falls;
          met = λ x z k hx hz r.
              ⊎_elim
              (λ p. ⊎_elim (λ l. let b = lengths_fall v x z hx hz in inl (omega arith)) (λ m. inr (v.kept x z m)) (u.met x z k hx hz p))
              (⊎_elim (λ q. v.met x z k hx hz q) (λ m. inr (v.kept x z m)))
              (all x z k hx hz r);
          least_falls = λ x hx. let a = u.least_falls x hx in let b = v.least_falls x hx in omega arith;
          least_below = then_below;
          least_from = then_from;
          kept = λ x z m. v.kept x z (u.kept x z m);
          member = λ x z hx hz m.
              ⊎_elim
              (λ o. ⊎_elim inl (λ l. let b = lengths_fall v x z hx hz in inr (omega arith)) (u.member x z hx hz o))
              inr (v.member x z hx hz m);
        }

  -- the same candidates in other words, but for what is known
  pub relaxed_as : {P Q : Candidate} {f g : Found} → Relaxed next P f g →
      ((x z k : ℕ) → x < pair_count → z < pair_count → P x z k → Q x z k) →
      ((x z k : ℕ) → x < pair_count → z < pair_count → Q x z k → P x z k ⊎ Member g.known x z) → Relaxed next Q f g
  relaxed_as {P} {Q} {f} {g} u to back =
      relaxed_then u (relaxed_known {P = λ x z k. Q x z k × Member g.known x z} g (λ x z k hx hz (q, m). m)) to
      (λ x z k hx hz (q, m). q)
      (λ x z k hx hz q. ⊎_elim inl (λ m. inr (inr m)) (back x z k hx hz q))
