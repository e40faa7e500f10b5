-- Laws of a stack in a list: its length, stores beyond it and at its end, and its newest member.
use mathlib.Core.Path.{◌≡◌, refl, ap, ap₂}
use mathlib.Core.List.{List, ◌∷◌}
use Prim.Native.Nat.{ℕ, zero, suc, ◌+◌, ◌<◌, ◌≤◌}
use native.Mathlib.Omega.{arith}
use native.Mathlib.Numerals.{add-one}
use lib.ListN.{length, get_or, set}
use lib.Seq.{get_or-set_same, get_or-set_other}
use Rattle.std.specs.Prelude.{Option, None, Some, IsSome}
use Rattle.words.specs.Stack.{newest_first}
use Rattle.words.specs.Inner.Popped.{Popped}

pub length_newest : (l : List ℕ) (k : ℕ) → length (newest_first l k) ≡ k
length_newest l zero = refl
length_newest l (suc k) = ap suc (length_newest l k)

pub newest_kept : (l : List ℕ) (k j x : ℕ) → k ≤ j → newest_first (set l j x) k ≡ newest_first l k
newest_kept l zero j x h = refl
newest_kept l (suc k) j x h = ap₂ (λ y r. y ∷ r) (get_or-set_other l j k x 0 (omega arith)) (newest_kept l k j x (omega arith))

pub newest_pushed : (l : List ℕ) (k x : ℕ) → k < length l → newest_first (set l k x) (k + 1) ≡ x ∷ newest_first l k
newest_pushed l k x h = rw (add-one k) (ap₂ (λ y r. y ∷ r) (get_or-set_same l k x 0 h) (newest_kept l k k x (omega arith)))

pub newest_popped : (l : List ℕ) (k j : ℕ) → k ≡ suc j → newest_first l k ≡ get_or l j 0 ∷ newest_first l j
newest_popped l k j e = ap (newest_first l) e

-- something comes off a stack on which something is
pub popped_some : (before after : List ℕ) (r : Option ℕ) → Popped before r after → 1 ≤ length before → IsSome r
popped_some before after None (e, _) h = absurd (omega (arith, ap length e))
popped_some before after (Some x) e h = refl

pub popped_is : {before after : List ℕ} {r : Option ℕ} {x : ℕ} → Popped before r after → r ≡ Some x → before ≡ x ∷ after
popped_is p e = rw e at p
