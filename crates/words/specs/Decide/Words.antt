-- Well-nestedness, within a limit or not, is decidable. A reader of the contracts needs only the types of the functions whose names end
-- in `?`: each gives a proof of the condition or a proof that it fails. The rest is how the proof is found.
use Rattle.std.specs.Prelude.{◌≡◌, refl, true, false, cond, List, [], ◌∷◌, ◌++◌, ℕ, suc, max, ◌+◌, ◌<◌, ◌≤◌, ltb, eqb, length, get_or}
use Rattle.std.proofs.Common.{sym, ◌∙◌, ap, append_assoc, append-nil, arith, ltb-true, lt-ltb, eqb-true, eq-eqb}
use Rattle.std.proofs.Math.Decide.{dec_le, dec_lt, map_dec}
use Rattle.words.specs.Decide.Deciders.{both?, below?}
use Rattle.words.specs.Tag.{opening, closing, codes, tag_bytes, Word, word_of}
use Rattle.words.specs.Forest.{Forest, none, elem, tags, Coded, WellNested, depth}
use Rattle.words.specs.IsWord.{most_tags, IsWord, WithinDepth, Deeper}
pub use Rattle.words.specs.Tag.{TagBytes}

pub tag_bytes? : (s : List ℕ) → Dec (TagBytes s)
tag_bytes? s = below? (λ k. get_or s k 0 < tag_bytes) (λ k. dec_lt (get_or s k 0) tag_bytes) (length s)

-- A pass from left to right, with the codes of the open elements, newest first, and the most that were open together.
pub data Pass : Type 0 where
  ill : Pass
  nested : ℕ → Pass

abbrev pub pass : Word → List ℕ → ℕ → Pass
pass [] [] m = nested m
pass [] (c ∷ st) m = ill
pass (opening c ∷ w) st m = cond (ltb c codes) (pass w (c ∷ st) (max m (suc (length st)))) ill
pass (closing c ∷ w) [] m = ill
pass (closing c ∷ w) (d ∷ st) m = cond (eqb c d) (pass w st m) ill

-- what is left closes the open elements: a forest before each closing tag, and one after the last
abbrev Closing : List ℕ → Word → Type 0
Closing [] w = WellNested w
Closing (c ∷ st) w = (f : Forest) × (v : Word) × Coded f × (tags f ++ closing c ∷ v ≡ w) × Closing st v

around : (st : List ℕ) (c : ℕ) (w : Word) → c < codes → Closing (c ∷ st) w → Closing st (opening c ∷ w)
around [] c w h (f, v, cf, e, k) =
    record {
      forest = elem c f k.forest;
      coded = (h, cf, k.coded);
      spells = ap (λ u. opening c ∷ u) (ap (λ u. tags f ++ closing c ∷ u) k.spells ∙ e);
    }
around (d ∷ st) c w h (f, v, cf, e, (g, x, cg, e', k)) = (
  elem c f g,
  x,
  (h, cf, cg),
  ap (λ u. opening c ∷ u) (append_assoc (tags f) (closing c ∷ tags g) (closing d ∷ x) ∙ ap (λ u. tags f ++ closing c ∷ u) e' ∙ e),
  k,
)

pub ill≢nested : {d : ℕ} → ill ≡ nested d → ⊥
ill≢nested {d} e = let z : ◌≡◌ {A = ℕ} 0 1 = ap (λ p. elim p [ ill ↦ 0 | nested x ↦ 1 ]) e in omega arith

pub nested_inj : {d e : ℕ} → nested d ≡ nested e → d ≡ e
nested_inj {d} {e} h = cc

pub sound : (w : Word) (st : List ℕ) (m d : ℕ) → pass w st m ≡ nested d → Closing st w
sound [] [] m d e = record { forest = none; coded = tt; spells = refl }
sound [] (c ∷ st) m d e = absurd (ill≢nested e)
sound (opening c ∷ w) st m d e =
    let rest = pass w (c ∷ st) (max m (suc (length st))) in
    (elim (ltb c codes) as (λ b. ltb c codes ≡ b → cond b rest ill ≡ nested d → Closing st (opening c ∷ w)) [
      | true ↦ λ t p. around st c w (ltb-true c codes t) (sound w (c ∷ st) (max m (suc (length st))) d p)
      | false ↦ λ t p. absurd (ill≢nested p)
    ])
    refl e
sound (closing c ∷ w) [] m d e = absurd (ill≢nested e)
sound (closing c ∷ w) (x ∷ st) m d e =
    (elim (eqb c x) as (λ b. eqb c x ≡ b → cond b (pass w st m) ill ≡ nested d → Closing (x ∷ st) (closing c ∷ w)) [
      | true ↦ λ t p. (none, w, tt, ap (λ y. closing y ∷ w) (sym (eqb-true c x t)), sound w st m d p)
      | false ↦ λ t p. absurd (ill≢nested p)
    ])
    refl e

complete : (f : Forest) → Coded f → (w : Word) (st : List ℕ) (m : ℕ) → length st ≤ m →
    pass (tags f ++ w) st m ≡ pass w st (max m (length st + depth f))
complete none cf w st m h = ap (λ x. pass w st x) (omega arith)
complete (elem c f g) (hc, cf, cg) w st m h =
    let a : pass (tags (elem c f g) ++ w) st m ≡ pass (tags f ++ (closing c ∷ (tags g ++ w))) (c ∷ st) (max m (suc (length st))) =
    rw (lt-ltb c codes hc) (ap (λ u. pass u (c ∷ st) (max m (suc (length st)))) (append_assoc (tags f) (closing c ∷ tags g) w)) in
    let b = complete f cf (closing c ∷ (tags g ++ w)) (c ∷ st) (max m (suc (length st))) (omega arith) in
    let x = max (max m (suc (length st))) (suc (length st) + depth f) in
    let d : pass (closing c ∷ (tags g ++ w)) (c ∷ st) x ≡ pass (tags g ++ w) st x = rw (eq-eqb c c refl) refl in
    let k = complete g cg w st x (omega arith) in
    a ∙ b ∙ d ∙ k ∙ ap (λ y. pass w st y) (omega arith)

-- the pass over the word of a forest gives the forest's depth
pub pass_tags : (w : Word) (n : WellNested w) → pass w [] 0 ≡ nested (depth n.forest)
pass_tags w n =
    let f = n.forest in
    let a : pass (tags f) [] 0 ≡ pass (tags f ++ []) [] 0 = ap (λ u. pass u [] 0) (sym (append-nil (tags f))) in
    ap (λ u. pass u [] 0) (sym n.spells) ∙ a ∙ complete f n.coded [] [] 0 (omega arith) ∙ ap nested (omega arith)

pub well_nested? : (w : Word) → Dec (WellNested w)
well_nested? w =
    (elim (pass w [] 0) as (λ p. pass w [] 0 ≡ p → Dec (WellNested w)) [
      | ill ↦ λ e. no (λ n. ill≢nested (sym e ∙ pass_tags w n))
      | nested d ↦ λ e. yes (sound w [] 0 d e)
    ])
    refl

-- two forests that spell one word have the same depth
pub same_depth : (w : Word) (m n : WellNested w) → depth m.forest ≡ depth n.forest
same_depth w m n = nested_inj (sym (pass_tags w m) ∙ pass_tags w n)

pub is_word? : (s : List ℕ) → Dec (IsWord s)
is_word? s =
    map_dec (λ p. record { short = p.0; bytes = p.1.0; nested = p.1.1 }) (λ r. (r.short, (r.bytes, r.nested)))
    (both? (dec_le (length s) most_tags) (both? (tag_bytes? s) (well_nested? (word_of s))))

module _ (m : ℕ) (s : List ℕ) where
  pub within_depth? : Dec (WithinDepth m s)
  within_depth? =
      elim (is_word? s) [
        | no n ↦ no (λ h. n h.word)
        | yes p ↦ elim (dec_le (depth p.nested.forest) m) [
          | yes l ↦ yes (record { word = p; shallow = l })
          | no n ↦ no (λ h. n (rw (same_depth (word_of s) p.nested h.word.nested) h.shallow))
        ]
      ]

  pub deeper? : Dec (Deeper m s)
  deeper? =
      elim (well_nested? (word_of s)) [
        | no n ↦ no (λ d. n d.nested)
        | yes p ↦ elim (dec_lt m (depth p.forest)) [
          | yes h ↦ yes (record { nested = p; deep = h })
          | no n ↦ no (λ d. n (rw (same_depth (word_of s) p d.nested) d.deep))
        ]
      ]
