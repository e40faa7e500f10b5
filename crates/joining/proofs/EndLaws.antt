-- What is forced and what cannot be avoided: by the ends of strategies, for other sets of ends, and in another arena whose ends stand for
-- those here.
use mathlib.Core.Path.{◌≡◌}
use mathlib.Core.Bool.{true, false}
use mathlib.Core.Logic.Iff
use mathlib.Core.Logic.{◌↔◌}
use mathlib.Core.List.{[]}
use Rattle.words.specs.Tag.{Word}
use Rattle.game.specs.Arena.{Strategy, Arena, Ends, Won, Lost}
use Rattle.game.proofs.Simulate.{Simulation, back, ends_tied}
use Rattle.joining.specs.WinningStates.{Forces, CannotAvoid}

module _ (G : Arena) where
  module _ (P : G.Pos → Type 0) (w : Word) (x : G.Pos) where
    -- the strategy that forces P has every end there
    pub forced : Forces G P w x → (σ : Strategy) × ((y : G.Pos) → Ends G σ w x y → P y)
    unfolding Forces
    forced (σ, ends) = (σ, λ y e. ends y e)

    pub forced_by : (σ : Strategy) → ((y : G.Pos) → Ends G σ w x y → P y) → Forces G P w x
    unfolding Forces
    forced_by σ ends = (σ, λ y e. ends y e)

    -- where P cannot be avoided, each strategy has an end there
    pub unavoided : CannotAvoid G P w x → (σ : Strategy) → (y : G.Pos) × Ends G σ w x y × P y
    unfolding CannotAvoid
    unavoided cannot σ = let (y, e, p) = cannot σ in (y, e, p)

    pub unavoided_by : ((σ : Strategy) → (y : G.Pos) × Ends G σ w x y × P y) → CannotAvoid G P w x
    unfolding CannotAvoid
    unavoided_by ends σ = let (y, e, p) = ends σ in (y, e, p)

  -- winning forces the positions that meet the form, and who loses cannot avoid those that do not
  module _ (w : Word) (x : G.Pos) where
    pub won_forces : Won G w x ↔ Forces G (λ y. G.met y ≡ true) w x
    unfolding Won Forces
    won_forces = Iff.rfl

    pub lost_cannot_avoid : Lost G w x ↔ CannotAvoid G (λ y. G.met y ≡ false) w x
    unfolding Lost CannotAvoid
    lost_cannot_avoid = Iff.rfl

  -- two sets that agree on all ends
  module _ (w : Word) (x : G.Pos) (P Q : G.Pos → Type 0) (same : (σ : Strategy) (y : G.Pos) → Ends G σ w x y → P y ↔ Q y) where
    pub forces_same : Forces G P w x ↔ Forces G Q w x
    unfolding Forces
    forces_same = (λ (σ, ends). (σ, λ y e. (same σ y e).0 (ends y e)), λ (σ, ends). (σ, λ y e. (same σ y e).1 (ends y e)))

    pub cannot_avoid_same : CannotAvoid G P w x ↔ CannotAvoid G Q w x
    unfolding CannotAvoid
    cannot_avoid_same = (
      λ cannot σ. let (y, e, p) = cannot σ in (y, e, (same σ y e).0 p),
      λ cannot σ. let (y, e, p) = cannot σ in (y, e, (same σ y e).1 p),
    )

-- two sets, here and there, that agree on ends which stand for each other
module _ {G H : Arena} (S : Simulation G H) (P : G.Pos → Type 0) (Q : H.Pos → Type 0)
    (same : (a : G.Pos) (b : H.Pos) → S.Tied [] a b → P a ↔ Q b) (w : Word) (a : G.Pos) (b : H.Pos) (r : S.Tied w a b) where
  pub forces_tied : Forces G P w a ↔ Forces H Q w b
  unfolding Forces back
  forces_tied = (
    λ (σ, ends). (σ, λ z e. let (y, k, t) = ends_tied H G (back S) σ w b a z r e in (same y z t).0 (ends y k)),
    λ (σ, ends). (σ, λ y e. let (z, k, t) = ends_tied G H S σ w a b y r e in (same y z t).1 (ends z k)),
  )

  pub cannot_avoid_tied : CannotAvoid G P w a ↔ CannotAvoid H Q w b
  unfolding CannotAvoid back
  cannot_avoid_tied = (
    λ cannot σ.
        let (y, e, p) = cannot σ in
        let (z, k, t) = ends_tied G H S σ w a b y r e in
        (z, k, (same y z t).0 p),
    λ cannot σ.
        let (z, e, p) = cannot σ in
        let (y, k, t) = ends_tied H G (back S) σ w b a z r e in
        (y, k, (same y z t).1 p),
  )
