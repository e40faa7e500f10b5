-- A stack in a list that runs from the oldest inwards, as a play has kept states and marks (SPEC 3.9).
use Rattle.std.specs.Prelude.{List, [], ◌∷◌, ℕ, zero, suc, get_or}

-- the first k of the list, newest first
abbrev pub newest_first : List ℕ → ℕ → List ℕ
newest_first l zero = []
newest_first l (suc k) = get_or l k 0 ∷ newest_first l k
