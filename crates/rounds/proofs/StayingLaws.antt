-- Laws of the beginning of the search: each pair passed is there with no element.
use mathlib.Core.Path.{◌≡◌, ◌∙◌}
use mathlib.Core.List.{List}
use Prim.Native.Nat.{ℕ, ◌+◌, ◌<◌}
use native.Mathlib.Omega.{arith}
use native.Mathlib.Decide.{ℕ_discrete}
use lib.ListN.{length, set, length-set}
use lib.Seq.{get_or-set_same, get_or-set_other}
use Rattle.relaxation.specs.Inner.Pairs.{pair_count, target_part}
use Rattle.relaxation.specs.Inner.PairSet.{Gains}
use Rattle.relaxation.specs.Inner.Lengths.{length_count, length_index, length_of}
use Rattle.rounds.specs.Inner.Begun.{Itself}
use Rattle.relaxation.proofs.GainsLaws.{Passed, passed_more, passed_skip}

-- two indices of a table of lengths
places_apart : (x z m : ℕ) → x < pair_count → z < pair_count → m < pair_count → ¬ ((x ≡ m) × (z ≡ m)) →
    ¬ (length_index x z ≡ length_index m m)
places_apart x z m hx hz hm n e = n (omega arith, omega arith)

-- a length was stored
module _ (t : List ℕ) (m v : ℕ) (long : length t ≡ length_count) (hm : m < pair_count) where
  stored_here : length_of (set t (length_index m m) v) m m ≡ v
  unfolding length_of
  stored_here = get_or-set_same t (length_index m m) v 0 (omega arith)

  stored_apart : (x z : ℕ) → x < pair_count → z < pair_count → ¬ ((x ≡ m) × (z ≡ m)) →
      length_of (set t (length_index m m) v) x z ≡ length_of t x z
  unfolding length_of
  stored_apart x z hx hz n = get_or-set_other t (length_index m m) (length_index x z) v 0 (places_apart x z m hx hz hm n)

-- a pair's turn is its first
abbrev first : ℕ → ℕ → ℕ
first x z = x

-- the pairs below m of one of n target states are there with no element
pub record StayedBelow (n : ℕ) (lengths known settled into : List ℕ) (m : ℕ) (lengths' known' settled' into' : List ℕ) : Type 0 where
  pub long : length lengths' ≡ length lengths
  pub here : (x : ℕ) → x < m → x < pair_count → target_part x < n → length_of lengths' x x ≡ 0
  pub others : (x z : ℕ) → x < pair_count → z < pair_count → ¬ Itself n x z → length_of lengths' x z ≡ length_of lengths x z
  pub knows : Gains known known' (Passed first (Itself n) m)
  pub settles : Gains settled settled' (Passed first (Itself n) m)
  pub turns : Gains into into' (Passed first (Itself n) m)

module _ (n : ℕ) (lengths known settled into : List ℕ) where
  module _ (m : ℕ) {l k s i : List ℕ} (b : StayedBelow n lengths known settled into m l k s i) where
    pub stayed_skip : ¬ (target_part m < n) → StayedBelow n lengths known settled into (m + 1) l k s i
    stayed_skip none =
        let skip : (x z : ℕ) → x < pair_count → z < pair_count → x ≡ m → ¬ Itself n x z = λ x z hx hz e (d, h). none (rw e at h) in
        record {
          long = b.long;
          here = λ x lx hx h.
              elim (ℕ_discrete x m) [ yes e ↦ absurd (none (rw e at h)) | no d ↦ b.here x (omega arith) hx h ];
          others = b.others;
          knows = passed_skip first (Itself n) m b.knows skip;
          settles = passed_skip first (Itself n) m b.settles skip;
          turns = passed_skip first (Itself n) m b.turns skip;
        }

    pub stayed_more : {k' s' i' : List ℕ} → m < pair_count → length l ≡ length_count → target_part m < n →
        Gains k k' (λ x z. (x ≡ m) × (z ≡ m)) → Gains s s' (λ x z. (x ≡ m) × (z ≡ m)) → Gains i i' (λ x z. (x ≡ m) × (z ≡ m)) →
        StayedBelow n lengths known settled into (m + 1) (set l (length_index m m) 0) k' s' i'
    stayed_more hm long h gk gs gi =
        let to : (x z : ℕ) → x < pair_count → z < pair_count → (x ≡ m) × (z ≡ m) → (x ≡ m) × Itself n x z =
        λ x z hx hz (e, d). (e, (omega arith, rw e h)) in
        let back : (x z : ℕ) → x < pair_count → z < pair_count → x ≡ m → Itself n x z → (x ≡ m) × (z ≡ m) =
        λ x z hx hz e (d, y). (e, omega arith) in
        record {
          long = length-set l (length_index m m) 0 ∙ b.long;
          here = λ x lx hx y.
              elim (ℕ_discrete x m) [
                | yes e ↦ rw e (stored_here l m 0 long hm)
                | no d ↦ stored_apart l m 0 long hm x x hx hx (λ (e, f). d e) ∙ b.here x (omega arith) hx y
              ];
          others = λ x z hx hz y. stored_apart l m 0 long hm x z hx hz (λ p. y (to x z hx hz p).1) ∙ b.others x z hx hz y;
          knows = passed_more first (Itself n) m b.knows gk to back;
          settles = passed_more first (Itself n) m b.settles gs to back;
          turns = passed_more first (Itself n) m b.turns gi to back;
        }
