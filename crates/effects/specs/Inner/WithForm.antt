-- The effects of one more form.
use Rattle.std.specs.Prelude.{◌≡◌, ℕ, ◌<◌, ◌≤◌, get_or}
use Rattle.automata.specs.Target.{Target}
use Rattle.automata.specs.TargetBody.{most_states}
use Rattle.automata.specs.Reply.{Form}
use Rattle.effects.specs.Effects.{Told, Sized, long_number, shortest_at}
use Rattle.effects.specs.declared.Effects.{Effects}
use Rattle.effects.specs.declared.Shortest.TheVariants.{Unreached}

-- with one more form: code c has its effects, and every other code what it had
pub record WithForm (A : Target) (F : Form) (c : ℕ) (old new : Effects) : Type 0 where
  pub exact : (q s : ℕ) → q < A.states → s < most_states → Told A F q s (shortest_at new c q s)
  pub beyond : (q s : ℕ) → A.states ≤ q → q < most_states → s < most_states → shortest_at new c q s ≡ Unreached
  pub apart : (d q s : ℕ) → (d ≡ c → ⊥) → q < most_states → s < most_states → shortest_at new d q s ≡ shortest_at old d q s
  pub sized : Sized old → Sized new
  pub numbered : ((i : ℕ) → get_or old.numbers i 0 ≤ long_number) → (i : ℕ) → get_or new.numbers i 0 ≤ long_number
