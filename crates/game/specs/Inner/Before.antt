-- What is won before a forest, as the evaluators compute it for any rule: sets of values, by where an opening tag leads and by the goals of
-- insides. Winning is defined in Arena.antt, and the theorem that joins the two is `won_before_lem` in proofs/.
use Rattle.std.specs.Prelude.{Bool, ◌&&◌, ◌||◌, List, ℕ}
use Rattle.words.specs.Forest.{Forest, none, elem}
use Rattle.words.specs.Inner.All.{all}

module _ {X : Type 0} where
  -- the goal that the inside of an element of code c must meet, with v kept, if S is won after the element: by reading, or by fetching
  unfoldable pub goal_by : (ℕ → X → X → X) → (ℕ → X → X → Bool) → (ℕ → X → X → List X) → ℕ → X → (X → Bool) → X → Bool
  goal_by out may results c v S r = S (out c v r) || (may c v r && all S (results c v r))

  -- a forest by its first element and the forest after it, the element by the forest within it (SPEC 11.2)
  abbrev pub before : (ℕ → X → X) → (ℕ → X → (X → Bool) → X → Bool) → Forest → (X → Bool) → X → Bool
  before into goal none S v = S v
  before into goal (elem c f g) S v = before into goal f (goal c v (before into goal g S)) (into c v)
