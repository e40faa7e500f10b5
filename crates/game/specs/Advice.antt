-- Advice, by strategies and replies (SPEC 4.8 to 4.11), said once for every kind of position.
use Rattle.std.specs.Prelude.{◌≡◌, cond, ◌↔◌, [], ◌∷◌, ℕ}
use Rattle.words.specs.Tag.{Tag, Word}
use Rattle.automata.specs.Target.{Config}
use Rattle.game.specs.Arena.{Arena, Lost, ReadKeepsWon, FetchKeepsWon}
use Rattle.game.specs.Game.{Game}
use Rattle.game.specs.Held.{held}

-- the advice with tags left, at a position x with the tag t left and then w (SPEC 4.8)
pub record Advised (G : Arena) (t : Tag) (w : Word) (x : G.Pos) (a : ℕ) : Type 0 where
  pub lost : (a ≡ 0) ↔ Lost G (t ∷ w) x
  pub reads : (a ≡ 1) ↔ ReadKeepsWon G t w x
  pub fetches : (a ≡ 2) ↔ (¬ ReadKeepsWon G t w x × FetchKeepsWon G t w x)

-- the advice with the tags w left; with none it says whether the form is met (SPEC 4.9)
abbrev pub AdviceBy : (G : Arena) → Word → G.Pos → ℕ → Type 0
AdviceBy G [] x a = a ≡ cond (G.met x) 3 4
AdviceBy G (t ∷ w) x a = Advised G t w x a

-- by what a play holds (SPEC 4.10)
abbrev pub AdviceIs : Game → Word → Config → ℕ → Type 0
AdviceIs G = AdviceBy (held G)
