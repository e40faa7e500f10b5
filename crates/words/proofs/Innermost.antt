-- The closing tag of the innermost open element: the search for it, and what stands around it.
use mathlib.Core.Path.{◌≡◌, sym, ◌∙◌, ap, subst}
use mathlib.Core.List.{List, ◌∷◌, ◌++◌, append_assoc}
use Prim.Native.Nat.{ℕ, suc, ◌+◌, ◌-◌, ◌<◌, ◌≤◌}
use native.Mathlib.Omega.{arith}
use native.Mathlib.Numerals.{add-one}
use native.Mathlib.Decide.{dec_lt}
use lib.ListN.{length, take, drop, get_or, length-append, length-map}
use lib.Seq.{take_at, drop_at}
use Rattle.words.specs.Tag.{closing, codes, tag_of, Word, word_of}
use Rattle.words.specs.Forest.{Forest, none, elem, tags}
use Rattle.words.specs.Inner.Rest.{Rest, inner, closing_index}
use Rattle.words.proofs.Bytes.{word_take, word_drop, from_opening, from_closing}
use Rattle.words.proofs.RestLaws.{other_way, tail_of}

-- i tags are passed, with k opened since
abbrev pub Sought : List ℕ → ℕ → ℕ → Type 0
Sought s k i = closing_index (word_of s) 0 ≡ i + closing_index (drop i (word_of s)) k

module _ (s : List ℕ) where
  module _ (i k : ℕ) (x : Sought s k i) where
    pub sought_opening : i < length s → get_or s i 0 < codes → Sought s (k + 1) (i + 1)
    sought_opening h b = rw (add-one k) (omega (arith, ap (λ u. closing_index u k) (from_opening s i h b)))

    pub sought_found : i < length s → codes ≤ get_or s i 0 → k ≡ 0 → i ≡ closing_index (word_of s) 0
    sought_found h b z = omega (arith, rw z at x, ap (λ u. closing_index u 0) (from_closing s i h b))

    pub sought_closing : i < length s → codes ≤ get_or s i 0 → {j : ℕ} → k ≡ suc j → Sought s j (i + 1)
    sought_closing h b {j} e = omega (arith, rw e at x, ap (λ u. closing_index u (suc j)) (from_closing s i h b))

-- a forest closes what it opens
place_after : (f : Forest) (w : Word) (k : ℕ) → closing_index (tags f ++ w) k ≡ length (tags f) + closing_index w k
place_after none w k = omega arith
place_after (elem c f g) w k =
    let inside = place_after f (closing c ∷ (tags g ++ w)) (suc k) in
    let joined = ap (λ u. closing_index u (suc k)) (append_assoc (tags f) (closing c ∷ tags g) w) in
    omega (arith, inside, joined, place_after g w k, length-append (tags f) (closing c ∷ tags g))

-- the inside of the innermost open element, its closing tag at j, and what follows
pub record Innermost (m k : ℕ) (s : List ℕ) (j : ℕ) : Type 0 where
  pub forest : Forest
  pub within : j < length s
  pub closes : codes ≤ get_or s j 0
  pub inside : word_of (take j s) ≡ tags forest
  pub parted : word_of s ≡ tags forest ++ closing (get_or s j 0 - codes) ∷ word_of (drop (j + 1) s)
  pub outer : Rest m k (word_of (drop (j + 1) s))

pub innermost : {m k : ℕ} (s : List ℕ) (j : ℕ) → Rest m (suc k) (word_of s) → j ≡ closing_index (word_of s) 0 → Innermost m k s j
innermost {m} {k} s j (inner {v = v} f c e r h) p =
    let place : length (tags f) ≡ j = omega (arith, place_after f (closing c ∷ v) 0, ap (λ u. closing_index u 0) e) in
    let within : j < length s = omega (arith, length-append (tags f) (closing c ∷ v), length-map s tag_of, ap length e) in
    let left : drop j (word_of s) ≡ closing c ∷ v = ap (λ w. drop j w) e ∙ drop_at (tags f) (closing c ∷ v) j place in
    let closes : codes ≤ get_or s j 0 = elim (dec_lt (get_or s j 0) codes) [
      | yes l ↦ absurd (other_way (sym (from_opening s j within l) ∙ left))
      | no n ↦ omega arith
    ] in
    let same = sym (from_closing s j within closes) ∙ left in
    let back : word_of (drop (j + 1) s) ≡ v = word_drop (j + 1) s ∙ tail_of same in
    record {
      forest = f;
      within = within;
      closes = closes;
      inside = word_take j s ∙ ap (λ w. take j w) e ∙ take_at (tags f) (closing c ∷ v) j place;
      parted = rw back (e ∙ ap (λ w. tags f ++ w) (cc));
      outer = subst (λ w. Rest m k w) (sym back) r;
    }
