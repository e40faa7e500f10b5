-- Lists to search in: the numbers below a bound that have a property, and the pairs of the members of two lists. No promise to an outsider
-- cites this file.
use Rattle.std.proofs.Common.{ap, arith}
use Rattle.std.specs.Prelude.{Bool, ◌↔◌, ℕ, ◌<◌}
use Rattle.std.proofs.Math.Bool.{decide}
use mathlib.Core.List.Memᴰ
use mathlib.Core.List.{List, [], ◌∷◌, ◌++◌, map, Memᴰ}
use Rattle.words.specs.Lists.{picked}
use Rattle.words.proofs.Decided.{decided_yes, decided_true}
use Rattle.words.proofs.ListLaws.{picked_passes, in_picked}

-- the numbers below n that have a decidable property
pub record Listing (P : ℕ → Type 0) (n : ℕ) : Type 0 where
  pub found : List ℕ
  pub exact : (s : ℕ) → Memᴰ s found ↔ (s < n) × P s

pub listing : (P : ℕ → Type 0) → ((s : ℕ) → Dec (P s)) → (n : ℕ) → Listing P n
listing P P? n =
    let test : ℕ → Bool = λ s. decide (P? s) in
    record {
      found = picked test 0 n;
      exact = λ s. (
        λ m. let (t, l) = picked_passes test 0 n m in (omega arith, decided_true (P? s) t),
        λ (l, x). in_picked test 0 n (omega arith) (omega arith) (decided_yes (P? s) x),
      );
    }

pub grid : {A B : Type 0} → List A → List B → List (A × B)
grid [] r = []
grid (p ∷ l) r = map (λ q. (p, q)) r ++ grid l r

pub in_grid : {A B : Type 0} {p : A} {q : B} {l : List A} {r : List B} → Memᴰ p l → Memᴰ q r →
    Memᴰ {A = A × B} (p, q) (grid l r)
unfolding grid
in_grid {q = q} {r = r} (Memᴰ.head {x = x} {xs = l} e) n =
    Memᴰ.append_left (grid l r) (Memᴰ.cast (ap (λ y. (y, q)) e) (Memᴰ.map (λ y. (x, y)) n))
in_grid {r = r} (Memᴰ.tail {x = x} m) n = Memᴰ.append_right (map (λ y. (x, y)) r) (in_grid m n)
