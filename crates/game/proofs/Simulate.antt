-- Two arenas are won and lost together where a relation of their positions is kept by every move: what one strategy can end in, here
-- and there, is related too.
use mathlib.Core.Path.{◌≡◌, refl, sym, ◌∙◌, ap, subst}
use mathlib.Core.Bool.{true, false, ◌&&◌}
use mathlib.Core.Logic.{◌↔◌}
use mathlib.Core.List.{[], ◌∷◌}
use Prim.Native.Nat.{ℕ}
use Rattle.words.specs.Tag.{Tag, Word, code_of}
use Rattle.words.proofs.Truth.{and_both}
use Rattle.game.specs.Arena.{read, fetch, Strategy, after, Arena, Ends, Won, Lost, ReadKeepsWon, FetchKeepsWon}
use Rattle.game.proofs.Solve.{went, by_move}

-- `Tied w a b`: a and b stand for each other with the tags w left
pub record Simulation (G H : Arena) : Type 1 where
  pub Tied : Word → G.Pos → H.Pos → Type 0
  pub same_may : (t : Tag) (w : Word) (a : G.Pos) (b : H.Pos) → Tied (t ∷ w) a b → G.may t a ≡ H.may t b
  pub same_replies : (c : ℕ) (u : Word) → G.Lawful c u ↔ H.Lawful c u
  pub tied_read : (t : Tag) (w : Word) (a : G.Pos) (b : H.Pos) → Tied (t ∷ w) a b → Tied w (G.step read t a) (H.step read t b)
  pub tied_fetch : (t : Tag) (w : Word) (a : G.Pos) (b : H.Pos) (u : Word) → Tied (t ∷ w) a b → G.may t a ≡ true → G.Lawful (code_of t) u
      → Tied w (G.step (fetch u) t a) (H.step (fetch u) t b)
  pub same_met : (a : G.Pos) (b : H.Pos) → Tied [] a b → G.met a ≡ H.met b

-- a simulation seen from the other arena
unfoldable pub back : {G H : Arena} → Simulation G H → Simulation H G
back {G} {H} S =
    record {
      Tied = λ w b a. S.Tied w a b;
      same_may = λ t w b a r. sym (S.same_may t w a b r);
      same_replies = λ c u. ((S.same_replies c u).1, (S.same_replies c u).0);
      tied_read = λ t w b a r. S.tied_read t w a b r;
      tied_fetch = λ t w b a u r m l. S.tied_fetch t w a b u r (S.same_may t w a b r ∙ m) ((S.same_replies (code_of t) u).1 l);
      same_met = λ b a r. sym (S.same_met a b r);
    }

module _ (G H : Arena) (S : Simulation G H) where
  -- played from b in the other arena, the strategy ends in a position that y is tied to
  abbrev EndsThere : Strategy → Word → H.Pos → G.Pos → Type 0
  EndsThere σ w b y = (z : H.Pos) × Ends H σ w b z × S.Tied [] y z

  -- an end of a strategy here is tied to an end of the same strategy there
  pub ends_tied : (σ : Strategy) (w : Word) (a : G.Pos) (b : H.Pos) (y : G.Pos) → S.Tied w a b → Ends G σ w a y → EndsThere σ w b y
  ends_tied σ [] a b y r e = (b, refl, subst (λ v. S.Tied [] v b) e r)
  ends_tied σ (t ∷ w) a b y r e =
      let same = ap (λ x. x && σ []) (sym (S.same_may t w a b r)) in
      by_move G σ t w a y
      (λ u h l k.
      let tied = S.tied_fetch t w a b u r (and_both (G.may t a) (σ []) h).0 l in
      let (z, e', t') = ends_tied (after σ (fetch u)) w (G.step (fetch u) t a) (H.step (fetch u) t b) y tied k in
      (z, went H σ t w b z true (same ∙ h) (u, (S.same_replies (code_of t) u).0 l, e'), t'))
      (λ h k.
      let (z, e', t') = ends_tied (after σ read) w (G.step read t a) (H.step read t b) y (S.tied_read t w a b r) k in
      (z, went H σ t w b z false (same ∙ h) e', t'))
      e

module _ (G H : Arena) (S : Simulation G H) (w : Word) (a : G.Pos) (b : H.Pos) (r : S.Tied w a b) where
  won_there : Won G w a → Won H w b
  unfolding Won back
  won_there (σ, wins) =
      (σ, λ z e. let k = ends_tied H G (back S) σ w b a z r e in sym (S.same_met k.0 z k.2) ∙ wins k.0 k.1)

  lost_there : Lost G w a → Lost H w b
  unfolding Lost
  lost_there l σ =
      let q = l σ in
      let k = ends_tied G H S σ w a b q.0 r q.1 in
      (k.0, k.1, sym (S.same_met q.0 k.0 k.2) ∙ q.2)

module _ (G H : Arena) (S : Simulation G H) (w : Word) (a : G.Pos) (b : H.Pos) (r : S.Tied w a b) where
  -- won here exactly where it is won there, and lost here exactly where it is lost there
  pub won_same : Won G w a ↔ Won H w b
  unfolding back
  won_same = (won_there G H S w a b r, won_there H G (back S) w b a r)

  pub lost_same : Lost G w a ↔ Lost H w b
  unfolding back
  lost_same = (lost_there G H S w a b r, lost_there H G (back S) w b a r)

-- a move keeps the play won here exactly where it does there
module _ (G H : Arena) (S : Simulation G H) (t : Tag) (w : Word) (a : G.Pos) (b : H.Pos) (r : S.Tied (t ∷ w) a b) where
  pub read_same : ReadKeepsWon G t w a ↔ ReadKeepsWon H t w b
  read_same = won_same G H S w _ _ (S.tied_read t w a b r)

  fetch_there : FetchKeepsWon G t w a → FetchKeepsWon H t w b
  fetch_there (may, won) = (
    sym (S.same_may t w a b r) ∙ may,
    λ u l.
        let k = (S.same_replies (code_of t) u).1 l in
        (won_same G H S w _ _ (S.tied_fetch t w a b u r may k)).0 (won u k),
  )

module _ (G H : Arena) (S : Simulation G H) (t : Tag) (w : Word) (a : G.Pos) (b : H.Pos) (r : S.Tied (t ∷ w) a b) where
  pub fetch_same : FetchKeepsWon G t w a ↔ FetchKeepsWon H t w b
  unfolding back
  fetch_same = (fetch_there G H S t w a b r, fetch_there H G (back S) t w b a r)
