-- Lists by index: what a function gives for i, .., i + n - 1, and which of these numbers pass a test. So rules, bodies and codes are
-- listed in rising order (SPEC 6.5, 6.7, 7.3).
use Rattle.std.specs.Prelude.{Bool, cond, List, [], ◌∷◌, ℕ, zero, suc}

-- f i, .., f (i + n - 1)
abbrev pub tabulated : {A : Type 0} → (ℕ → A) → ℕ → ℕ → List A
tabulated f i zero = []
tabulated f i (suc n) = f i ∷ tabulated f (suc i) n

abbrev pub picked : (ℕ → Bool) → ℕ → ℕ → List ℕ
picked p i zero = []
picked p i (suc n) = cond (p i) (i ∷ picked p (suc i) n) (picked p (suc i) n)
