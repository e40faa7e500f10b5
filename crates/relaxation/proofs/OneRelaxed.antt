-- One length is relaxed.
use mathlib.Core.Path.{◌≡◌, refl, ◌∙◌}
use mathlib.Core.Logic.{◌⊎◌, inl, inr, ⊎_elim}
use mathlib.Core.List.{List}
use Prim.Native.Nat.{ℕ, min, ◌<◌, ◌≤◌}
use native.Mathlib.Omega.{arith}
use native.Mathlib.Decide.{ℕ_discrete}
use lib.ListN.{length, get_or, set, length-set}
use lib.Seq.{get_or-set_same, get_or-set_other}
use Rattle.relaxation.specs.Inner.Pairs.{pair_count}
use Rattle.relaxation.specs.Inner.PairSet.{Member}
use Rattle.relaxation.specs.Inner.Lengths.{length_index, length_of}
use Rattle.relaxation.specs.Inner.Relaxation.{Found, found, Whole, Fell, FellToLeast, Relaxed, One}

-- k is not less than what is there
pub relaxed_idle : {next : ℕ} (f : Found) (x z k : ℕ) → length_of f.lengths x z ≤ k → Relaxed next (One x z k) f f
relaxed_idle f x z k l =
    record {
      whole = λ w. w;
      falls = λ x' z' hx hz. inl refl;
      met = λ x' z' k' hx hz (ex, ez, ek). inl (rw (ex, ez, ek) l);
      least_falls = λ x' hx. omega arith;
      least_below = λ x' z' hx hz m. absurd (omega arith);
      least_from = λ x' hx. inl refl;
      kept = λ x' z' m. m;
      member = λ x' z' hx hz m. inl m;
    }

-- the candidate is less, and becomes the length
module _ {next : ℕ} (l w k₁ k₂ : List ℕ) (h : Whole (found l w k₁)) (x z k : ℕ) (hx : x < pair_count) (hz : z < pair_count) (n : next ≤ k)
    (less : k < length_of l x z) (long : length k₂ ≡ length k₁) (kept : (x' z' : ℕ) → Member k₁ x' z' → Member k₂ x' z')
    (member : (x' z' : ℕ) → x' < pair_count → z' < pair_count → Member k₂ x' z' → Member k₁ x' z' ⊎ ((x' ≡ x) × (z' ≡ z) × (k ≡ next)))
  where
    abbrev l' : List ℕ
    l' = set l (length_index x z) k

    abbrev w' : List ℕ
    w' = set w x (min (get_or w x 0) k)

    here : length_of l' x z ≡ k
    unfolding length_of
    here = get_or-set_same l (length_index x z) k 0 (rw h.lengths (omega arith))

    elsewhere : (x' z' : ℕ) → z' < pair_count → ((x' ≡ x) × (z' ≡ z) → ⊥) → length_of l' x' z' ≡ length_of l x' z'
    unfolding length_of
    elsewhere x' z' hz' d = get_or-set_other l (length_index x z) (length_index x' z') k 0 (λ e. d (omega arith, omega arith))

    least_here : get_or w' x 0 ≡ min (get_or w x 0) k
    least_here = get_or-set_same w x _ 0 (rw h.least (omega arith))

    least_elsewhere : (x' : ℕ) → (x' ≡ x → ⊥) → get_or w' x' 0 ≡ get_or w x' 0
    least_elsewhere x' d = get_or-set_other w x x' _ 0 d

    -- the one index, or another
    one? : (x' z' : ℕ) → ((x' ≡ x) × (z' ≡ z)) ⊎ ((x' ≡ x) × (z' ≡ z) → ⊥)
    one? x' z' =
        elim (ℕ_discrete x' x) [
          | yes e ↦ elim (ℕ_discrete z' z) [ yes d ↦ inl (e, d) | no d ↦ inr (λ (a, b). d b) ]
          | no e ↦ inr (λ (a, b). e a)
        ]

    fell_here : Fell next (One x z k) (found l w k₁) (found l' w' k₂) x z
    fell_here = record { less = rw here less; from = rw here n; candidate = (refl, refl, here) }

    one_falls : (x' z' : ℕ) → x' < pair_count → z' < pair_count →
        (length_of l' x' z' ≡ length_of l x' z') ⊎ Fell next (One x z k) (found l w k₁) (found l' w' k₂) x' z'
    one_falls x' z' hx' hz' =
        ⊎_elim (λ (e, d). inr (rw (e, d) fell_here)) (λ d. inl (elsewhere x' z' hz' d)) (one? x' z')

    one_below : (x' z' : ℕ) → x' < pair_count → z' < pair_count → length_of l' x' z' < length_of l x' z' →
        get_or w' x' 0 ≤ length_of l' x' z'
    one_below x' z' hx' hz' m =
        ⊎_elim (λ (e, d). rw (e, d) (omega (arith, here, least_here)))
        (λ d. let s = elsewhere x' z' hz' d in absurd (omega arith)) (one? x' z')

    one_from : (x' : ℕ) → x' < pair_count → (get_or w' x' 0 ≡ get_or w x' 0) ⊎ FellToLeast (found l w k₁) (found l' w' k₂) x'
    one_from x' hx' =
        elim (ℕ_discrete x' x) [
          | no d ↦ inl (least_elsewhere x' d)
          | yes e ↦ rw e (elim (native.Mathlib.Decide.dec_lt k (get_or w x 0)) [
            | yes m ↦ inr (z, hz, rw here less, omega (arith, here, least_here))
            | no m ↦ inl (omega (arith, least_here))
          ])
        ]

    pub relaxed_one : Relaxed next (One x z k) (found l w k₁) (found l' w' k₂)
    relaxed_one =
        record {
          whole = λ y.
              record {
                lengths = length-set l (length_index x z) k ∙ y.lengths;
                least = length-set w x _ ∙ y.least;
                known = long ∙ y.known;
              };
          falls = one_falls;
          met = λ x' z' k' hx' hz' (ex, ez, ek). inl (rw (ex, ez, ek) (omega (arith, here)));
          least_falls = λ x' hx'.
              elim (ℕ_discrete x' x) [ yes e ↦ rw e (omega (arith, least_here)) | no d ↦ omega (arith, least_elsewhere x' d) ];
          least_below = one_below;
          least_from = one_from;
          kept = kept;
          member = λ x' z' hx' hz' m.
              ⊎_elim inl (λ (ex, ez, ek). inr (rw (ex, ez) (omega (arith, here)))) (member x' z' hx' hz' m);
        }
