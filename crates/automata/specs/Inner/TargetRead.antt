-- What reading a target's tables gives, and its runs over words and forests.
use Rattle.std.specs.Prelude.{◌≡◌, [], ℕ, ◌<◌}
use Rattle.words.specs.Tag.{Word}
use Rattle.words.specs.Forest.{Forest, none, elem}
use Rattle.automata.specs.Target.{Target, at, run}
use Rattle.automata.specs.TargetBody.{most_states}

-- what reading a state off the tables gives: the state, which is one of the n
pub record StateIs (A : Target) (s r : ℕ) : Type 0 where
  pub is : r ≡ s
  pub one_of : r < A.states
  pub small : r < most_states

-- what the run over a word gives: the state that it leads to, with nothing kept, which is one of the n
pub record RunsTo (A : Target) (w : Word) (q r : ℕ) : Type 0 where
  pub reaches : run A w (at q []) ≡ at r []
  pub one_of : r < A.states
  pub small : r < most_states

-- the run over a forest, from a state to a state
abbrev pub over : Target → Forest → ℕ → ℕ
over A none q = q
over A (elem c f g) q = let inner = A.open_to q c in over A g (A.close_to (over A f inner) q c)
