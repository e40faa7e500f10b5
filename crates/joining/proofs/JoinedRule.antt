-- Joining over any rule of play, of two parts and of any number.
use mathlib.Core.Path.{◌≡◌, refl, sym, ◌∙◌, subst}
use mathlib.Core.Bool.{true, false}
use mathlib.Core.Logic.Iff
use mathlib.Core.Logic.{◌↔◌}
use mathlib.Core.List.Memᴰ
use mathlib.Core.List.{List, [], ◌∷◌, ◌++◌, append-nil}
use Prim.Native.Nat.{ℕ}
use native.Mathlib.Omega.{arith}
use lib.ListN.{length}
use Rattle.words.specs.Tag.{opening, closing, Word}
use Rattle.words.specs.Forest.{WellNested}
use Rattle.words.specs.Inner.Rest.{Closes}
use Rattle.words.proofs.ForestJoined.{nested_append}
use Rattle.words.proofs.RestLaws.{rest_end, closes_nested, closes_opened, closes_closed, closes_none_open}
use Rattle.automata.specs.Target.{Held, at}
use Rattle.automata.proofs.TargetRun.{at_state}
use Rattle.game.specs.Arena.{read, fetch, Strategy, after, Ends, Won, Lost}
use Rattle.game.specs.Rule.{Rule, arena}
use Rattle.game.specs.Listed.{Listed}
use Rattle.game.proofs.Solve.{by_move}
use Rattle.game.proofs.RuleGame.{FitsBy, rule_finite}
use Rattle.joining.specs.WinningStates.{Forces, CannotAvoid, EndedIn, PartWon, PartLost, PartsWon, PartsLost, end_to_end}
use Rattle.joining.specs.WinningStates.{RuleJoined, RuleByParts}
use Rattle.joining.proofs.Parts.{AllNested, nested_parts}
use Rattle.joining.proofs.JoinedArena.{good_end, joined_won, joined_lost}
use Rattle.joining.proofs.EndLaws.{forces_same, cannot_avoid_same}

-- two sets that agree on the values that fit agree on ends with such a value
pub fit_same : {X : Type 0} (Fit P Q : X → Type 0) → ((s : X) → Fit s → P s ↔ Q s) → (k : Held X) → EndedIn Fit k →
    EndedIn P k ↔ EndedIn Q k
fit_same {X} Fit P Q same k (t, j, f) =
    let fits : (s : X) → k ≡ at s [] → Fit s = λ s e. subst Fit (at_state (sym j ∙ e)) f in
    (λ (s, e, p). (s, e, (same s (fits s e)).0 p), λ (s, e, q). (s, e, (same s (fits s e)).1 q))

module _ (R : Rule) where
  abbrev Pos : Type 0
  Pos = Held R.Val

  -- with as many kept as the tags close, nothing is kept where a strategy ends
  ends_alone : (σ : Strategy) (u : Word) (s : R.Val) (ks : List R.Val) (y : Pos) → Closes (length ks) u →
      Ends (arena R) σ u (at s ks) y → (r : R.Val) × (y ≡ at r [])
  ends_alone σ [] s [] y c e = (s, sym e)
  ends_alone σ [] s (k ∷ ks) y c e = let n = rest_end c.1 in absurd (omega arith)
  ends_alone σ (opening c ∷ u) s ks y h e = ends_alone (after σ read) u (R.into c s) (s ∷ ks) y (closes_opened h) e
  ends_alone σ (closing c ∷ u) s [] y h e = absurd (closes_none_open h)
  ends_alone σ (closing c ∷ u) s (k ∷ ks) y h e =
      by_move (arena R) σ (closing c) u (at s (k ∷ ks)) y
      (λ w m l j. ends_alone (after σ (fetch w)) u (R.reply c k s w) ks y (closes_closed h) j)
      (λ m j. ends_alone (after σ read) u (R.out c k s) ks y (closes_closed h) j)
      e

  module _ {u : Word} (nu : WellNested u) (s : R.Val) (P : Pos → Type 0) where
    -- so of an end only its value counts
    by_value : (σ : Strategy) (y : Pos) → Ends (arena R) σ u (at s []) y → P y ↔ EndedIn (λ r. P (at r [])) y
    by_value σ y e =
        (λ p. let (r, k) = ends_alone σ u s [] y (closes_nested nu) e in (r, k, subst P k p), λ (r, k, p). subst P (sym k) p)

  -- with no tag left a part is won where the form is met, and lost where it is not
  no_tag_left : (s : R.Val) → RuleByParts R [] s
  unfolding Won Lost
  no_tag_left s =
      let met = (arena R).met in
      record {
        won = (λ (σ, wins). wins (at s []) refl, λ e. (λ h. false, λ y k. subst (λ x. met x ≡ true) k e));
        lost = (
          λ lost. let (y, k, outside) = lost (λ h. false) in subst (λ x. met x ≡ false) (sym k) outside,
          λ e σ. (at s [], refl, e),
        );
      }

  module _ (L : Listed R) where
    fits_nested : {w : Word} {s : R.Val} → WellNested w → L.Fit s → FitsBy L.Fit w (at s [])
    fits_nested n h = (h, tt, closes_nested n)

    -- a strategy on a well-nested word ends in a value that fits
    pub ends_fit : {u : Word} → WellNested u → (s : R.Val) → L.Fit s → (σ : Strategy) (y : Pos) → Ends (arena R) σ u (at s []) y →
        EndedIn L.Fit y
    unfolding rule_finite
    ends_fit {u} nu s h σ y e =
        let (r, k) = ends_alone σ u s [] y (closes_nested nu) e in
        let fits : FitsBy L.Fit [] y =
        good_end (arena R) (rule_finite R L) σ u [] (at s []) y (rw (append-nil u) (fits_nested nu h)) e in
        (r, k, (rw k at fits).0)

  module _ (lawful? : (c : ℕ) (u : Word) → Dec (R.Lawful c u)) where
    -- the first half asks no more of the rule than this decision
    pub rule_won : {u : Word} → WellNested u → (v : Word) (s : R.Val) →
        PartWon R (u ++ v) s ↔ Forces (arena R) (EndedIn (PartWon R v)) u (at s [])
    rule_won {u} nu v s =
        Iff.trans (joined_won (arena R) lawful? u v (at s []))
        (forces_same (arena R) u (at s []) (Won (arena R) v) (EndedIn (PartWon R v)) (by_value nu s (Won (arena R) v)))

    module _ (L : Listed R) where
      pub rule_joined : {u v : Word} → WellNested u → WellNested v → (s : R.Val) → L.Fit s → RuleJoined R u v s
      unfolding rule_finite
      rule_joined {u} {v} nu nv s h =
          let good = fits_nested L (nested_append nu nv) h in
          record {
            won = rule_won nu v s;
            lost = Iff.trans (joined_lost (arena R) lawful? u v (at s []) (rule_finite R L) good)
                (cannot_avoid_same (arena R) u (at s []) (Lost (arena R) v) (EndedIn (PartLost R v)) (by_value nu s (Lost (arena R) v)));
          }

      pub rule_parts : (us : List Word) → AllNested us → (s : R.Val) → L.Fit s → RuleByParts R us s
      rule_parts [] n s h = no_tag_left s
      rule_parts (u ∷ us) n s h =
          let nu = n u (Memᴰ.head refl) in
          let ns : AllNested us = λ w m. n w (Memᴰ.tail m) in
          let two = rule_joined nu (nested_parts us ns) s h in
          let after = end_to_end us in
          let same : (P Q : R.Val → Type 0) → ((r : R.Val) → L.Fit r → P r ↔ Q r) → (σ : Strategy) (y : Pos) →
          Ends (arena R) σ u (at s []) y → EndedIn P y ↔ EndedIn Q y =
          λ P Q k σ y e. fit_same L.Fit P Q k y (ends_fit L nu s h σ y e) in
          let won : Forces (arena R) (EndedIn (PartWon R after)) u (at s []) ↔ PartsWon R (u ∷ us) s =
          forces_same (arena R) u (at s []) (EndedIn (PartWon R after)) (EndedIn (PartsWon R us))
          (same (PartWon R after) (PartsWon R us) (λ r f. (rule_parts us ns r f).won)) in
          let lost : CannotAvoid (arena R) (EndedIn (PartLost R after)) u (at s []) ↔ PartsLost R (u ∷ us) s =
          cannot_avoid_same (arena R) u (at s []) (EndedIn (PartLost R after)) (EndedIn (PartsLost R us))
          (same (PartLost R after) (PartsLost R us) (λ r f. (rule_parts us ns r f).lost)) in
          record { won = Iff.trans two.won won; lost = Iff.trans two.lost lost }
