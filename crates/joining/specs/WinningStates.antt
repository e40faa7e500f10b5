-- The winning states of the second of two records set end to end, and how the first has to come to them (SPEC 12.2 to 12.6), for any rule
-- of play.
use Rattle.std.specs.Prelude.{◌≡◌, true, false, ◌↔◌, List, [], ◌∷◌, ◌++◌}
use Rattle.words.specs.Tag.{Word}
use Rattle.automata.specs.Target.{Held, at}
use Rattle.game.specs.Arena.{Strategy, Arena, Ends, Won, Lost}
use Rattle.game.specs.Rule.{Rule, arena}

module _ (G : Arena) (P : G.Pos → Type 0) where
  -- some strategy along w ends only in P, whatever lawful replies come: `Won` is this, of the positions that meet the form
  unfoldable pub Forces : Word → G.Pos → Type 0
  Forces w x = (σ : Strategy) × ((y : G.Pos) → Ends G σ w x y → P y)

  -- to every strategy along w there are lawful replies with which it ends in P: `Lost` is this, of the positions that do not
  unfoldable pub CannotAvoid : Word → G.Pos → Type 0
  CannotAvoid w x = (σ : Strategy) → (y : G.Pos) × Ends G σ w x y × P y

-- nothing is kept, and the value is in P
abbrev pub EndedIn : {X : Type 0} → (X → Type 0) → Held X → Type 0
EndedIn {X} P k = (s : X) × (k ≡ at s []) × P s

module _ (R : Rule) where
  -- The last part of a record is won from a value, or lost, if it is so as a record of its own, played from there with nothing kept,
  -- however the value was reached (SPEC 12.2). The values from which it is won, its winning states, are what the part before it "owes" it.
  abbrev pub PartWon : Word → R.Val → Type 0
  PartWon v s = Won (arena R) v (at s [])

  abbrev pub PartLost : Word → R.Val → Type 0
  PartLost v s = Lost (arena R) v (at s [])

  -- the same of parts set end to end, folded from the last: each part forces what the parts after it ask for (SPEC 12.6)
  abbrev pub PartsWon : List Word → R.Val → Type 0
  PartsWon [] s = R.met s ≡ true
  PartsWon (u ∷ us) s = Forces (arena R) (EndedIn (PartsWon us)) u (at s [])

  abbrev pub PartsLost : List Word → R.Val → Type 0
  PartsLost [] s = R.met s ≡ false
  PartsLost (u ∷ us) s = CannotAvoid (arena R) (EndedIn (PartsLost us)) u (at s [])

-- the parts set end to end
abbrev pub end_to_end : List Word → Word
end_to_end [] = []
end_to_end (u ∷ us) = u ++ end_to_end us

-- Joining, from a value: `rule_joined`, for well-nested parts, a rule whose results are listed and a value that fits; the first half,
-- `rule_won`, for any rule and value. Both ask that it is decided which replies are lawful.
pub record RuleJoined (R : Rule) (u v : Word) (s : R.Val) : Type 0 where
  pub won : PartWon R (u ++ v) s ↔ Forces (arena R) (EndedIn (PartWon R v)) u (at s [])
  pub lost : PartLost R (u ++ v) s ↔ CannotAvoid (arena R) (EndedIn (PartLost R v)) u (at s [])

-- and for any number of parts: `rule_parts`
pub record RuleByParts (R : Rule) (us : List Word) (s : R.Val) : Type 0 where
  pub won : PartWon R (end_to_end us) s ↔ PartsWon R us s
  pub lost : PartLost R (end_to_end us) s ↔ PartsLost R us s
