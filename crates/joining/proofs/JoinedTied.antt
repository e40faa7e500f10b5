-- Joining in any arena that is tied to the arena of a rule, as the game on words is: an end counts by the value that it stands for.
use mathlib.Core.Path.{◌≡◌, sym, subst}
use mathlib.Core.Logic.Iff
use mathlib.Core.Logic.{◌↔◌}
use mathlib.Core.List.{[], ◌++◌}
use Prim.Native.Nat.{ℕ}
use Rattle.words.specs.Tag.{Word}
use Rattle.words.specs.Forest.{WellNested}
use Rattle.automata.specs.Target.{Held, at}
use Rattle.game.specs.Arena.{Arena, Won, Lost}
use Rattle.game.specs.Rule.{Rule, arena}
use Rattle.game.specs.Listed.{Listed}
use Rattle.game.proofs.Simulate.{Simulation, won_same, lost_same}
use Rattle.joining.specs.WinningStates.{Forces, CannotAvoid, EndedIn, PartWon, PartLost}
use Rattle.joining.proofs.EndLaws.{forces_tied, cannot_avoid_tied}
use Rattle.joining.proofs.JoinedRule.{rule_won, rule_joined}

module _ (R : Rule) (lawful? : (c : ℕ) (u : Word) → Dec (R.Lawful c u)) (H : Arena) (S : Simulation H (arena R))
    (value : H.Pos → Held R.Val) (same_value : (a : H.Pos) (b : Held R.Val) → S.Tied [] a b → value a ≡ b)
    {u v : Word} (nu : WellNested u) (nv : WellNested v) (s : R.Val)
    (x : H.Pos) (whole : S.Tied (u ++ v) x (at s [])) (first : S.Tied u x (at s [])) where
  -- an end here and the one that it stands for are in the same sets of values
  in_value : (P : R.Val → Type 0) (a : H.Pos) (b : Held R.Val) → S.Tied [] a b → EndedIn P (value a) ↔ EndedIn P b
  in_value P a b t = (subst (EndedIn P) (same_value a b t), subst (EndedIn P) (sym (same_value a b t)))

  pub tied_won : Won H (u ++ v) x ↔ Forces H (λ y. EndedIn (PartWon R v) (value y)) u x
  tied_won =
      Iff.trans (won_same H (arena R) S (u ++ v) x (at s []) whole)
      (Iff.trans (rule_won R lawful? nu v s) (Iff.symm (forces_tied S _ _ (in_value (PartWon R v)) u x (at s []) first)))

  pub tied_lost : (L : Listed R) → L.Fit s → Lost H (u ++ v) x ↔ CannotAvoid H (λ y. EndedIn (PartLost R v) (value y)) u x
  tied_lost L h =
      Iff.trans (lost_same H (arena R) S (u ++ v) x (at s []) whole)
      (Iff.trans (rule_joined R lawful? L nu nv s h).lost
      (Iff.symm (cannot_avoid_tied S _ _ (in_value (PartLost R v)) u x (at s []) first)))
