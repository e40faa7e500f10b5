-- What comes off a stack, and the stack after it.
use Rattle.std.specs.Prelude.{◌≡◌, List, [], ◌∷◌, ℕ, Option, None, Some}

-- the newest, or nothing where nothing is on it
abbrev pub Popped : List ℕ → Option ℕ → List ℕ → Type 0
Popped before None after = (before ≡ []) × (after ≡ [])
Popped before (Some x) after = before ≡ x ∷ after
