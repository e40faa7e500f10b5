-- Laws of a table looked up by index: of a table that is mapped, and of a rule that is tested at each entry.
use mathlib.Core.Path.{◌≡◌, refl}
use mathlib.Core.Bool.{Bool, true, ◌&&◌}
use mathlib.Core.List.{List, [], ◌∷◌, map}
use Prim.Native.Nat.{ℕ, zero, suc, ◌+◌, ◌<◌}
use native.Mathlib.Nat.{add-zero, zero-add, add-suc, suc-add, le_of_suc-le-suc, not-suc-le-zero}
use lib.ListN.{length, get_or}
use Rattle.words.proofs.Truth.{and_both}

-- what a function gives of an entry is the entry of the table that is mapped by it
pub mapped_at {ℓ κ} : {A : Type ℓ} {B : Type κ} (f : A → B) (l : List A) (n : ℕ) (a : A) → f (get_or l n a) ≡ get_or (map f l) n (f a)
mapped_at f [] n a = refl
mapped_at f (x ∷ l) zero a = refl
mapped_at f (x ∷ l) (suc n) a = mapped_at f l n a

-- a rule f holds of each entry and its index, counted from i
abbrev pub every {ℓ} : {A : Type ℓ} → (ℕ → A → Bool) → ℕ → List A → Bool
every f i [] = true
every f i (x ∷ l) = f i x && every f (suc i) l

every_from {ℓ} : {A : Type ℓ} (f : ℕ → A → Bool) (l : List A) (i : ℕ) → every f i l ≡ true → (k : ℕ) (d : A) → k < length l →
    f (i + k) (get_or l k d) ≡ true
every_from f [] i t k d h = absurd (not-suc-le-zero h)
every_from f (x ∷ l) i t zero d h = rw add-zero (and_both (f i x) (every f (suc i) l) t).0
every_from f (x ∷ l) i t (suc k) d h =
    rw (add-suc, ← suc-add) (every_from f l (suc i) (and_both (f i x) (every f (suc i) l) t).1 k d (le_of_suc-le-suc h))

-- a rule that is tested over the whole table holds at each index
pub every_at {ℓ} : {A : Type ℓ} (f : ℕ → A → Bool) (l : List A) → every f 0 l ≡ true → (k : ℕ) (d : A) → k < length l →
    f k (get_or l k d) ≡ true
every_at f l t k d h = rw zero-add at (every_from f l 0 t k d h)
