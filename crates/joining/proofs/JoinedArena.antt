-- Joining in any arena in which it is decided which replies are lawful, for any two words: SPEC 12.3, and 12.4 where fetches have finitely
-- many results.
use mathlib.Core.Path.{◌≡◌, sym, ◌∙◌, subst}
use mathlib.Core.Bool.{true, true≢false}
use mathlib.Core.Logic.{⊎_elim, ◌↔◌}
use mathlib.Core.List.{[], ◌∷◌, ◌++◌}
use Prim.Native.Nat.{ℕ}
use Rattle.words.specs.Tag.{Word}
use Rattle.words.proofs.Truth.{and_both, true_or_false}
use Rattle.game.specs.Arena.{read, fetch, Strategy, after, Arena, Ends, Won, Lost}
use Rattle.game.proofs.Solve.{Finite, by_move, win_at, plan, plan_wins, lost_iff}
use Rattle.joining.specs.WinningStates.{Forces, CannotAvoid}
use Rattle.joining.proofs.EndLaws.{forced, forced_by, unavoided, unavoided_by}
use Rattle.joining.proofs.InTurn.{in_turn, passes_by, resumed}

-- where a strategy ends, the tags that follow can be played
pub good_end : (G : Arena) (F : Finite G) (σ : Strategy) (u v : Word) (x y : G.Pos) → F.Good (u ++ v) x → Ends G σ u x y → F.Good v y
good_end G F σ [] v x y g e = subst (F.Good v) e g
good_end G F σ (t ∷ u) v x y g e =
    by_move G σ t u x y
    (λ r h l k.
    let good = F.good_fetch t (u ++ v) x r g (and_both (G.may t x) (σ []) h).0 l in
    good_end G F (after σ (fetch r)) u v (G.step (fetch r) t x) y good k)
    (λ h k. good_end G F (after σ read) u v (G.step read t x) y (F.good_read t (u ++ v) x g) k)
    e

module _ (G : Arena) (lawful? : (c : ℕ) (u : Word) → Dec (G.Lawful c u)) (u v : Word) (x : G.Pos) where
  -- the first part as the strategy that forces it, then the second as the one that wins from its end
  pub joined_won : Won G (u ++ v) x ↔ Forces G (Won G v) u x
  unfolding Won
  joined_won = (
    λ (ρ, wins). forced_by G (Won G v) u x ρ (λ y e. let (σ, on) = resumed G ρ u v x y e in (σ, λ z k. wins z (on z k))),
    λ forces.
        let (σ, winning) = forced G (Won G v) u x forces in (
          in_turn G lawful? σ u x (λ y e. (winning y e).0),
          λ z e. let (y, first, second) = passes_by G lawful? v z σ u x (λ y e. (winning y e).0) e in (winning y first).1 z second,
        ),
  )

  -- where won and lost are decided too: the first part as it may be, then the second by the plan for wherever it begins
  module _ (F : Finite G) (g : F.Good (u ++ v) x) where
    pub joined_lost : Lost G (u ++ v) x ↔ CannotAvoid G (Lost G v) u x
    unfolding Lost
    joined_lost = (
      λ lost. unavoided_by G (Lost G v) u x (λ σ.
          let (z, e, outside) = lost (in_turn G lawful? σ u x (λ y _. plan G F v y)) in
          let (y, first, second) = passes_by G lawful? v z σ u x (λ y _. plan G F v y) e in
          let good = good_end G F σ u v x y g first in
          let beaten : win_at G F v y ≡ true → ⊥ = λ w. true≢false (sym (plan_wins G F v y z good w second) ∙ outside) in
          (y, first, (lost_iff G F v y good).1 (⊎_elim (λ w. absurd (beaten w)) (λ l. l) (true_or_false (win_at G F v y))))),
      λ cannot ρ.
          let (y, e, lost) = unavoided G (Lost G v) u x cannot ρ in
          let (σ, on) = resumed G ρ u v x y e in
          let (z, k, outside) = lost σ in
          (z, on z k, outside),
    )
