-- A forest judged from its last element back to its first, by any rule.
use mathlib.Core.Path.{◌≡◌, refl, sym, ◌∙◌, ap}
use mathlib.Core.Bool.{Bool}
use mathlib.Core.List.{List, ◌++◌, append-nil}
use Prim.Native.Nat.{ℕ, suc, ◌-◌, ◌<◌, ◌≤◌}
use native.Mathlib.Omega.{arith}
use lib.ListN.{length, get_or}
use Rattle.words.specs.Tag.{codes, Word}
use Rattle.words.specs.Forest.{Forest, none, elem, tags}
use Rattle.words.specs.Inner.Unclosed.{Unclosed}
use Rattle.words.proofs.ForestJoined.{LastElement}
use Rattle.words.proofs.ForestEnds.{up_to, upto_long, upto_cut, ends_opening, ends_closing}
use Rattle.words.proofs.ForestEnds.{nothing_ends, something_ends, none_at_start, last_ends}
use Rattle.solver.specs.Inner.Evaluated.{Judge, won_before, ForestJudged, ElementJudged}
use Rattle.game.proofs.Before.{Agree, before_joined}

-- sets are judged by the values that fit alone
abbrev pub Agreeing : Judge → Type 0
Agreeing J = (f : Forest) (S T : J.Val → Bool) → Agree J.Fit S T → Agree J.Fit (won_before J f S) (won_before J f T)

module _ (J : Judge) (bytes : List ℕ) (end : ℕ) (goal : J.Mask) (e : ℕ) (S : J.Mask) where
  -- what is left of a forest f at e: a front part, with the set S after it
  pub record FrontLeft (u : Word) (f : Forest) : Type 0 where
    pub front : Forest
    pub spells : up_to bytes e ≡ u ++ tags front
    pub same : Agree J.Fit (won_before J front (J.has S)) (won_before J f (J.has goal))

  -- the turns from `end` back to e
  pub record Walked : Type 0 where
    pub within : e ≤ end
    pub rest : (u : Word) (f : Forest) → up_to bytes end ≡ u ++ tags f → Unclosed u → FrontLeft u f

module _ (J : Judge) (agreeing : Agreeing J) {bytes : List ℕ} {end : ℕ} (inside : end ≤ length bytes) (goal : J.Mask) where
  pub walked_none : Walked J bytes end goal end goal
  walked_none = record { within = omega arith; rest = λ u f x o. record { front = f; spells = x; same = λ q h. refl } }

  module _ (e : ℕ) (S : J.Mask) (w : Walked J bytes end goal e S) where
    within_bytes : e ≤ length bytes
    within_bytes = let h = w.within in omega arith

    -- nothing is left of the forest
    walked_out : ((u : Word) (f : Forest) → up_to bytes e ≡ u ++ tags f → f ≡ none) → ForestJudged J bytes end goal e S
    walked_out gone =
        record {
          within = w.within;
          begins = λ u f x o.
              let r = w.rest u f x o in
              let spelled : up_to bytes e ≡ u = r.spells ∙ ap (λ g. u ++ tags g) (gone u r.front r.spells) ∙ append-nil u in
              sym (upto_long bytes e within_bytes) ∙ ap length spelled;
          states = λ u f x o q h.
              let r = w.rest u f x o in
              ap (λ g. won_before J g (J.has S) q) (sym (gone u r.front r.spells)) ∙ r.same q h;
        }

    pub walked_to_start : e ≡ 0 → ForestJudged J bytes end goal e S
    walked_to_start z = walked_out (λ u f x. none_at_start u f (ap (λ k. up_to bytes k) (sym z) ∙ x))

    module _ (i : ℕ) (at : e ≡ suc i) where
      pub walked_to_opening : get_or bytes i 0 < codes → ForestJudged J bytes end goal e S
      walked_to_opening l =
          walked_out (λ u f x. nothing_ends (up_to bytes i) u (get_or bytes i 0) f (sym (ends_opening bytes e i at within_bytes l) ∙ x))

      -- one element less
      module _ (closes : codes ≤ get_or bytes i 0) (start : ℕ) (T : J.Mask) (j : ElementJudged J bytes e S start T) where
        rest_less : (u : Word) (f : Forest) (r : FrontLeft J bytes end goal e S u f) → LastElement r.front →
            FrontLeft J bytes end goal start T u f
        rest_less u f r m =
            let v = u ++ tags m.front in
            let g = elem m.code m.inside none in
            let x = r.spells ∙ last_ends u m in
            let h = j.within in
            record {
              front = m.front;
              spells = upto_cut bytes start e v (tags g) (omega arith) x (j.begins v m.code m.inside x);
              same = λ q l.
                  agreeing m.front (J.has T) (won_before J g (J.has S)) (j.states v m.code m.inside x) q l ∙
                  sym (before_joined J.into J.goal m.front g (J.has S) q) ∙
                  ap (λ f. won_before J f (J.has S) q) m.joins ∙
                  r.same q l;
            }

        pub walked_more : Walked J bytes end goal start T
        walked_more =
            let h = w.within in
            let k = j.within in
            record {
              within = omega arith;
              rest = λ u f x o.
                  let r = w.rest u f x o in
                  let spelled = sym (ends_closing bytes e i at within_bytes closes) ∙ r.spells in
                  rest_less u f r (something_ends (up_to bytes i) u (get_or bytes i 0 - codes) r.front o spelled);
            }
