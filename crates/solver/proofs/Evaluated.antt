-- An element judged through the forest within it, by any rule; and what callers of the evaluators cite.
use mathlib.Core.Path.{◌≡◌, refl, sym, ◌∙◌, ap}
use mathlib.Core.Bool.{Bool, true, false, cond}
use mathlib.Core.Logic.{inl, inr}
use mathlib.Core.List.{List, [], ◌∷◌, ◌++◌}
use Prim.Native.Nat.{ℕ, zero, suc, ◌+◌, ◌-◌, ◌^◌, ◌/◌, ◌%◌, ◌<◌, ◌≤◌}
use native.Mathlib.Omega.{arith}
use native.Mathlib.Nat.{pow-suc}
use borrow.Author.Tests.{eq-eqb}
use lib.Bits.{bit_or}
use lib.ListN.{length, get_or, length-append}
use lib.Pow.{pow_pos}
use lib.Seq.{take-length}
use Rattle.words.specs.Tag.{opening, codes, Word, word_of}
use Rattle.words.specs.Forest.{Forest, none, elem, tags}
use Rattle.words.specs.Inner.Unclosed.{Unclosed}
use Rattle.words.proofs.ForestEnds.{up_to, upto_long, ends_opening, ends_closing, taken_apart, nothing_ends}
use Rattle.automata.specs.Bits.{bit}
use Rattle.automata.specs.TargetBody.{target_of, ValidTarget}
use Rattle.automata.proofs.BitLaws.{bit_zero, bit_first, bit_next}
use Rattle.contents.proofs.ContentLaws.{fetchable_form}
use Rattle.effects.proofs.Collected.{Collected, collected_none, collected_carry}
use Rattle.solver.specs.Inner.Evaluated.{Judge, won_before, Holds, StatesJudged, ForestJudged, ElementJudged, AroundJudged}
use Rattle.solver.specs.Inner.Evaluated.{by_states, Judgeable}
use Rattle.game.specs.Held.{replacing}
use Rattle.game.specs.Rule.{Rule}
use Rattle.game.specs.Listed.{Listed}
use Rattle.solver.proofs.GamesWith.{game_with, listed_with}
use Rattle.game.proofs.Before.{before_agrees, before_same}
use Rattle.solver.proofs.Walked.{Agreeing}

-- the mask of k ones has every state below k
pub every_state : (k q : ℕ) → q < k → bit (2 ^ k - 1) q ≡ true
every_state zero q h = absurd (omega arith)
every_state (suc k) zero h =
    bit_first (2 ^ suc k - 1) ∙ eq-eqb ((2 ^ suc k - 1) % 2) 1 (let p = pow-suc 2 k in let z = pow_pos k in omega arith)
every_state (suc k) (suc q) h =
    let half : (2 ^ suc k - 1) / 2 ≡ 2 ^ k - 1 = (let p = pow-suc 2 k in let z = pow_pos k in omega arith) in
    bit_next (2 ^ suc k - 1) q ∙ ap (λ m. bit m q) half ∙ every_state k q (omega arith)

-- a smaller part of the record may be asked for too
pub judgeable_before : {target sets bytes : List ℕ} {end : ℕ} → Judgeable target sets bytes end → (e : ℕ) → e ≤ end →
    Judgeable target sets bytes e
judgeable_before a e h =
    let k = a.within in
    record { answered = a.answered; coded = a.coded; within = omega arith }

-- the closing tag of the element stands at i, before `end`
module _ (J : Judge) (bytes : List ℕ) (end : ℕ) (inside : end ≤ length bytes) (goal : J.Mask)
    (i : ℕ) (at : end ≡ suc i) (closes : codes ≤ get_or bytes i 0) where
  inside_is : (u : Word) (d : ℕ) (f : Forest) → up_to bytes end ≡ u ++ tags (elem d f none) →
      (up_to bytes i ≡ (u ++ (opening d ∷ [])) ++ tags f) × (get_or bytes i 0 - codes ≡ d)
  inside_is u d f x = taken_apart (up_to bytes i) u (get_or bytes i 0 - codes) d f (sym (ends_closing bytes end i at inside closes) ∙ x)

  inside_long : (u : Word) (d : ℕ) (f : Forest) → up_to bytes i ≡ (u ++ (opening d ∷ [])) ++ tags f → i ≡ length u + 1 + length (tags f)
  inside_long u d f x = sym (upto_long bytes i (omega arith)) ∙ ap length x ∙ simp length-append

  -- a closing tag that nothing stands before closes no element
  pub element_alone : (T : J.Mask) → i ≡ 0 → ElementJudged J bytes end goal 0 T
  element_alone T z =
      let no : (u : Word) (d : ℕ) (f : Forest) → up_to bytes end ≡ u ++ tags (elem d f none) → ⊥ =
      λ u d f x. let k = inside_long u d f (inside_is u d f x).0 in omega arith in
      record { within = omega arith; begins = λ u d f x. absurd (no u d f x); states = λ u d f x q h. absurd (no u d f x) }

  module _ (c : ℕ) (code : c ≡ get_or bytes i 0 - codes) where
    own_code : (u : Word) (d : ℕ) (f : Forest) → up_to bytes end ≡ u ++ tags (elem d f none) → (v : J.Val) →
        won_before J (elem c f none) (J.has goal) v ≡ won_before J (elem d f none) (J.has goal) v
    own_code u d f x v = ap (λ y. won_before J (elem y f none) (J.has goal) v) (code ∙ (inside_is u d f x).1)

    -- an opening tag stands before the closing tag: nothing is inside
    module _ (j : ℕ) (next : i ≡ suc j) (opens : get_or bytes j 0 < codes) where
      inside_empty : (u : Word) (d : ℕ) (f : Forest) → up_to bytes end ≡ u ++ tags (elem d f none) → f ≡ none
      inside_empty u d f x =
          nothing_ends (up_to bytes j) (u ++ (opening d ∷ [])) (get_or bytes j 0) f
          (sym (ends_opening bytes i j next (omega arith) opens) ∙ (inside_is u d f x).0)

      pub element_empty : (T : J.Mask) → Holds J T (won_before J (elem c none none) (J.has goal)) → ElementJudged J bytes end goal j T
      element_empty T hold =
          record {
            within = omega arith;
            begins = λ u d f x.
                let k = inside_long u d f (inside_is u d f x).0 in
                let z = ap (λ g. length (tags g)) (inside_empty u d f x) in
                omega arith;
            states = λ u d f x v h.
                hold v h ∙ ap (λ g. won_before J (elem c g none) (J.has goal) v) (sym (inside_empty u d f x)) ∙ own_code u d f x v;
          }

    -- the inside begins after the element's opening tag
    pub element_around : (g : J.Mask) (start : ℕ) (S T : J.Mask) → ForestJudged J bytes i g start S → AroundJudged J bytes i c goal T →
        ElementJudged J bytes end goal (start - 1) T
    element_around g start S T j r =
        let l = j.within in
        let after : (u : Word) (d : ℕ) → Unclosed (u ++ (opening d ∷ [])) = λ u d. inr (u, d, refl) in
        record {
          within = omega arith;
          begins = λ u d f x.
              let k = j.begins (u ++ (opening d ∷ [])) f (inside_is u d f x).0 (after u d) ∙ length-append u (opening d ∷ []) in
              omega arith;
          states = λ u d f x v h. r (u ++ (opening d ∷ [])) f (inside_is u d f x).0 (after u d) v h ∙ own_code u d f x v;
        }

-- a slice that is a forest is judged whole
pub forest_whole : (J : Judge) {bytes : List ℕ} {goal : J.Mask} {start : ℕ} {won : J.Mask} →
    ForestJudged J bytes (length bytes) goal start won → (f : Forest) → word_of bytes ≡ tags f →
    (start ≡ 0) × Holds J won (won_before J f (J.has goal))
forest_whole J {bytes} j f e =
    let x = ap (λ b. word_of b) (take-length bytes) ∙ e in
    (j.begins [] f x (inl refl), j.states [] f x (inl refl))

-- Of the states before an element of code c around the forest that ends at `end`, those below q have been looked at.
abbrev pub AroundBelow : List ℕ → List ℕ → List ℕ → ℕ → ℕ → ℕ → ℕ → ℕ → Type 0
AroundBelow target sets bytes end c goal q found =
    (u : Word) (f : Forest) → up_to bytes end ≡ u ++ tags f → Unclosed u →
    Collected (won_before (by_states target sets) (elem c f none) (bit goal)) q found

module _ {target sets bytes : List ℕ} {end : ℕ} (v : ValidTarget target) (a : Judgeable target sets bytes end) where
  abbrev J : Judge
  J = by_states target sets

  abbrev R : Rule
  R = replacing (game_with target a.answered.forms)

  abbrev L : Listed R
  L = listed_with a.answered.forms a.answered.effects v

  pub states_agree : Agreeing J
  states_agree = before_agrees R L

  -- a goal of everything is met from every state, and a goal of nothing from none
  judged_same : (b : Bool) (goal won : ℕ) → Holds J goal (λ q. b) → Holds J won (λ q. b) → StatesJudged J bytes end goal won
  judged_same b goal won asked given u f x o q h =
      given q h ∙ sym (before_same R L (λ c v r m. a.answered.answered c (fetchable_form c m)) b f (bit goal) asked q h)

  pub judged_nothing : StatesJudged J bytes end 0 0
  judged_nothing = judged_same false 0 0 (λ q h. bit_zero q) (λ q h. bit_zero q)

  pub judged_everything : (goal : ℕ) → goal ≡ 2 ^ (target_of target).states - 1 → StatesJudged J bytes end goal goal
  judged_everything goal e =
      let full : Holds J goal (λ q. true) = λ q h. ap (λ m. bit m q) e ∙ every_state (target_of target).states q h in
      judged_same true goal goal full full

  module _ (c goal : ℕ) where
    pub around_none : AroundBelow target sets bytes end c goal 0 0
    around_none u f x o = collected_none _

    -- the inside was judged for the goal of q, and the state to which the element opens is asked for
    pub around_more : (q found : ℕ) → AroundBelow target sets bytes end c goal q found → (inner won p : ℕ) →
        Holds J inner (J.goal c q (bit goal)) →
        StatesJudged J bytes end inner won → p ≡ J.into c q → p < (target_of target).states →
        AroundBelow target sets bytes end c goal (q + 1) (cond (bit won p) (bit_or found (2 ^ q)) found)
    around_more q found g inner won p hold j ep hp u f x o =
        let asked = J.goal c q (bit goal) in
        collected_carry _ q found (g u f x o) (bit won p)
        (ap (λ s. won_before J f asked s) (sym ep) ∙ sym (j u f x o p hp ∙ states_agree f (bit inner) asked hold p hp))
