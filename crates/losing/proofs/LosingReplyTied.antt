-- In arenas tied by a relation that moves keep, a fetch comes to the same: it keeps the play won in both, or the same reply loses it.
use mathlib.Core.Path.{◌≡◌, sym, ◌∙◌}
use mathlib.Core.Bool.{true}
use mathlib.Core.Logic.{◌↔◌}
use mathlib.Core.List.{◌∷◌}
use Rattle.words.specs.Tag.{Tag, code_of, Word}
use Rattle.game.specs.Arena.{fetch, Arena}
use Rattle.game.proofs.Simulate.{Simulation, lost_same, fetch_same}
use Rattle.losing.specs.LosingReply.{FetchOutcome, keeps_won, lost_by, Loses, LosingReply, OutcomeIs}

-- where the same replies lose, the losing reply is the same
losing_as : (G H : Arena) (t : Tag) (w : Word) (a : G.Pos) (b : H.Pos) →
    ((u : Word) → Loses G t w a u ↔ Loses H t w b u) → (u : Word) → LosingReply G t w a u → LosingReply H t w b u
losing_as G H t w a b same u x =
    record {
      loses = (same u).0 x.loses;
      shortest = λ v less y. x.shortest v less ((same v).1 y);
      first = λ v long y. x.first v long ((same v).1 y);
    }

module _ (G H : Arena) (S : Simulation G H) (t : Tag) (w : Word) (a : G.Pos) (b : H.Pos)
    (r : S.Tied (t ∷ w) a b) (may : G.may t a ≡ true) where
  may_there : H.may t b ≡ true
  may_there = sym (S.same_may t w a b r) ∙ may

  after_fetch : (u : Word) → G.Lawful (code_of t) u → S.Tied w (G.step (fetch u) t a) (H.step (fetch u) t b)
  after_fetch u l = S.tied_fetch t w a b u r may l

  there : (u : Word) → G.Lawful (code_of t) u → H.Lawful (code_of t) u
  there u = (S.same_replies (code_of t) u).0

  here : (u : Word) → H.Lawful (code_of t) u → G.Lawful (code_of t) u
  here u = (S.same_replies (code_of t) u).1

  loses_same : (u : Word) → Loses G t w a u ↔ Loses H t w b u
  loses_same u = (
    λ (_, l, lost). (may_there, there u l, (lost_same G H S w _ _ (after_fetch u l)).0 lost),
    λ (_, l, lost). (may, here u l, (lost_same G H S w _ _ (after_fetch u (here u l))).1 lost),
  )

  pub outcome_tied : (x : FetchOutcome) → OutcomeIs G t w a x ↔ OutcomeIs H t w b x
  outcome_tied keeps_won = fetch_same G H S t w a b r
  outcome_tied (lost_by u) = (
    losing_as G H t w a b loses_same u,
    losing_as H G t w b a (λ v. ((loses_same v).1, (loses_same v).0)) u,
  )
