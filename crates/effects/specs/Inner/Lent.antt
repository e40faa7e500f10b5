-- The sets of effects as they are lent to who asks for many of them.
use Rattle.std.specs.Prelude.{◌≡◌, Bool, List, ℕ, ◌+◌, ◌*◌, get_or}
use Rattle.words.specs.Lists.{picked}
use Rattle.automata.specs.Bits.{bit}
use Rattle.automata.specs.Target.{Target}
use Rattle.automata.specs.TargetBody.{most_states}
use Rattle.automata.specs.Reply.{Form}
use Rattle.effects.specs.Effects.{EffectsOf}
use Rattle.effects.specs.Inner.Sets.{sets_of}
use Rattle.effects.specs.declared.Effects.{Effects}

-- the set of code c at target state q, among those lent
unfoldable pub set_in : List ℕ → ℕ → ℕ → ℕ
set_in sets c q = get_or sets (most_states * c + q) 0

-- the same as a list
unfoldable pub results : List ℕ → ℕ → ℕ → List ℕ
results sets c q = picked (bit (set_in sets c q)) 0 most_states

-- these are the sets of some forms' effects
pub record LentOf (A : Target) (has : ℕ → Bool) (forms : ℕ → Form) (sets : List ℕ) : Type 0 where
  pub effects : Effects
  pub exact : EffectsOf A has forms effects
  pub lent : sets ≡ sets_of effects
