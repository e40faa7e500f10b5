-- At each position that fits exactly one advice is right, and a play that is won has a move that keeps it won.
use mathlib.Core.Path.{refl, sym, subst}
use mathlib.Core.Bool.{Bool, true, false, cond}
use mathlib.Core.Logic.{◌⊎◌}
use mathlib.Core.List.{[], ◌∷◌}
use Prim.Native.Nat.{ℕ, ◌<◌}
use native.Mathlib.Omega.{arith}
use lib.Dec.{lit<}
use Rattle.words.specs.Exactly.{Exactly}
use Rattle.words.specs.Tag.{Tag, Word}
use Rattle.automata.specs.Target.{Closed, Config}
use Rattle.game.specs.Arena.{Won, ReadKeepsWon, FetchKeepsWon}
use Rattle.game.specs.Game.{Game}
use Rattle.game.specs.Held.{replacing, held}
use Rattle.game.proofs.Determined.{closed_listed}
use Rattle.game.proofs.HeldGame.{HeldFits}
use Rattle.game.specs.Advice.{AdviceIs}
use Rattle.game.proofs.AdviceRule.{one_advised, advised_few, kept_won}

three_or_four : (b : Bool) → cond b 3 4 < 5
three_or_four true = lit< tt
three_or_four false = lit< tt

module _ (G : Game) (is_closed : Closed G.target) where
  pub one_advice : (w : Word) (k : Config) → HeldFits G w k → Exactly (AdviceIs G w k)
  one_advice [] k g = record { value = cond ((held G).met k) 3 4; right = refl; only = λ a e. e }
  one_advice (t ∷ w) k g = one_advised (replacing G) (closed_listed G is_closed) t w k g

  -- the advice is 0 to 4
  pub advice_few : (w : Word) (k : Config) → HeldFits G w k → (a : ℕ) → AdviceIs G w k a → a < 5
  advice_few [] k g a v = subst (λ n. n < 5) (sym v) (three_or_four ((held G).met k))
  advice_few (t ∷ w) k g a v =
      let few = advised_few (replacing G) (closed_listed G is_closed) t w k g a v in
      omega arith

  pub won_goes_on : (t : Tag) (w : Word) (k : Config) → HeldFits G (t ∷ w) k → Won (held G) (t ∷ w) k →
      ReadKeepsWon (held G) t w k ⊎ (¬ ReadKeepsWon (held G) t w k × FetchKeepsWon (held G) t w k)
  won_goes_on t w k g = kept_won (replacing G) (closed_listed G is_closed) t w k g
