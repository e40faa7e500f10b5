-- The deposit form (SPEC 2.1 to 2.4).
use Rattle.std.specs.Prelude.{Bool, false, List, [], ◌∷◌, ℕ, ◌<◌}
use Rattle.words.specs.Tag.{Tag, opening, closing, Word}

-- a "target" (SPEC 2.1, 10.21, 10.22: a DNWA in normal form)
pub record Target : Type 0 where
  pub states : ℕ
  pub start : ℕ
  pub accepting : ℕ → Bool
  -- where an opening tag leads, from the state and the code
  pub open_to : ℕ → ℕ → ℕ
  -- where a closing tag leads, from the state, the state taken back and the code
  pub close_to : ℕ → ℕ → ℕ → ℕ

-- start and tables name only the target's own states (SPEC 2.1), for whatever states and codes they are asked; so it is in every accepted
-- file, whose tables give an entry or, past the last, 0
pub record Closed (A : Target) : Type 0 where
  pub start_below : A.start < A.states
  pub open_below : (q c : ℕ) → A.open_to q c < A.states
  pub close_below : (r q c : ℕ) → A.close_to r q c < A.states

-- A value, and the values kept for the elements that are open, newest first. `stuck` is where a closing tag comes with nothing kept; no
-- well-nested word leads there.
pub data Held (X : Type 0) : Type 0 where
  at : X → List X → Held X
  stuck : Held X

-- The source's two cases in its order, then what cannot occur (SPEC 11.14): an opening tag keeps the value and goes on from one found from
-- it and the code; a closing tag takes the kept value back and goes on from one found from the code, the kept value and the value within.
abbrev pub keeping : {X : Type 0} → (ℕ → X → X) → (ℕ → X → X → X) → Tag → Held X → Held X
keeping into out (opening c) (at v ks) = at (into c v) (v ∷ ks)
keeping into out (closing c) (at r (v ∷ ks)) = at (out c v r) ks
keeping into out (opening c) stuck = stuck
keeping into out (closing c) (at r []) = stuck
keeping into out (closing c) stuck = stuck

-- nothing is kept, and the value passes
abbrev pub ended : {X : Type 0} → (X → Bool) → Held X → Bool
ended met (at v []) = met v
ended met (at v (k ∷ ks)) = false
ended met stuck = false

-- where a run of the target stands: its state, and the "kept states" (SPEC 10.19: a configuration; linear and hierarchical states)
abbrev pub Config : Type 0
Config = Held ℕ

-- an opening tag keeps the state (SPEC 2.2), and the matching closing tag takes it back (SPEC 2.3)
abbrev pub step : Target → Tag → Config → Config
step A t k = keeping (λ c q. A.open_to q c) (λ c q r. A.close_to r q c) t k

-- the "run" over a word, tag by tag
abbrev pub run : Target → Word → Config → Config
run A [] k = k
run A (t ∷ w) k = run A w (step A t k)

-- a run that ended: nothing is kept, and the state is accepting
abbrev pub accepts : Target → Config → Bool
accepts A k = ended A.accepting k

-- "in deposit form" (SPEC 2.4)
unfoldable pub in_form : Target → Word → Bool
in_form A w = accepts A (run A w (at A.start []))
