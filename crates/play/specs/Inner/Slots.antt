-- What the four places of a play's array hold: the parts of `PlayFits` as the code judges them.
use Rattle.std.specs.Prelude.{◌≡◌, List, ℕ, suc, ◌<◌, ◌≤◌, get_or}

-- each place of an open element holds at most `most`, each unused one zero
abbrev pub SlotFits : List ℕ → ℕ → ℕ → ℕ → Type 0
SlotFits l depth most i = (i < depth → get_or l i 0 ≤ most) × (depth ≤ i → get_or l i 0 ≡ 0)

-- from the outermost open element inwards nothing falls
abbrev pub Rising : List ℕ → ℕ → Type 0
Rising l depth = (i : ℕ) → suc i < depth → get_or l i 0 ≤ get_or l (suc i) 0
