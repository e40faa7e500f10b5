-- In arenas tied by a relation that moves keep, the advice is the same.
use mathlib.Core.Path.{◌≡◌, sym, ◌∙◌, ap}
use mathlib.Core.Bool.{cond}
use mathlib.Core.Logic.Iff
use mathlib.Core.Logic.{◌↔◌}
use mathlib.Core.List.{[], ◌∷◌}
use Prim.Native.Nat.{ℕ}
use Rattle.words.specs.Tag.{Tag, Word}
use Rattle.game.specs.Advice.{Advised, AdviceBy}
use Rattle.game.specs.Arena.{Arena}
use Rattle.game.proofs.Simulate.{Simulation, back, lost_same, read_same, fetch_same}

module _ (G H : Arena) (S : Simulation G H) (t : Tag) (w : Word) (x : G.Pos) (y : H.Pos) (r : S.Tied (t ∷ w) x y) (a : ℕ) where
  advised_there : Advised G t w x a → Advised H t w y a
  advised_there v =
      let reads = read_same G H S t w x y r in
      let fetches = fetch_same G H S t w x y r in
      record {
        lost = Iff.trans v.lost (lost_same G H S (t ∷ w) x y r);
        reads = Iff.trans v.reads reads;
        fetches = Iff.trans v.fetches (
          λ (n, f). (λ h. n (reads.1 h), fetches.0 f),
          λ (n, f). (λ h. n (reads.0 h), fetches.1 f),
        );
      }

pub advice_tied : (G H : Arena) (S : Simulation G H) (w : Word) (x : G.Pos) (y : H.Pos) → S.Tied w x y → (a : ℕ) →
    AdviceBy G w x a ↔ AdviceBy H w y a
unfolding back
advice_tied G H S [] x y r a =
    let same : ◌≡◌ {A = ℕ} (cond (G.met x) 3 4) (cond (H.met y) 3 4) = ap (λ b. cond b 3 4) (S.same_met x y r) in
    (λ e. e ∙ same, λ e. e ∙ sym same)
advice_tied G H S (t ∷ w) x y r a = (advised_there G H S t w x y r a, advised_there H G (back S) t w y x r a)
