-- How a forest is written: nothing for the empty one; else its first opening tag, what is within, the closing tag, and what follows.
use mathlib.Core.Path.{◌≡◌, sym, ◌∙◌, ap}
use mathlib.Core.List.{List, [], ◌∷◌, ◌++◌, map, map-append, append_assoc}
use Prim.Native.Nat.{ℕ, ◌+◌, ◌*◌, ◌<◌, ◌≤◌}
use native.Mathlib.Omega.{arith}
use lib.ListN.{length, set, take, drop, length-append, length-drop, length-map, take-append-drop}
use lib.Seq.{paste-zero, take_at, take_all, drop-append-add, drop-drop, drop-cons, set_at, length-take-le}
use Rattle.words.specs.Tag.{byte_of, codes}
use Rattle.words.specs.Forest.{Forest, none, elem, tags}
use Rattle.words.proofs.ForestLong.{elements, tags_long}
use Rattle.shortest.specs.Inner.Spelled.{with_forest}

pub spelled_none : (b : List ℕ) (at : ℕ) → b ≡ with_forest b at none
spelled_none b at = paste-zero b at []

-- the bytes of a forest
abbrev bytes : Forest → List ℕ
bytes f = map byte_of (tags f)

bytes_long : (f : Forest) → length (bytes f) ≡ 2 * elements f
bytes_long f = length-map (tags f) byte_of ∙ tags_long f

-- What is written at the seam of two lists takes the place of as much of the second: a forest, and a byte.
module _ (p r : List ℕ) (at : ℕ) (seam : length p ≡ at) where
  seam_forest : (f : Forest) → with_forest (p ++ r) at f ≡ (p ++ bytes f) ++ drop (2 * elements f) r
  seam_forest f =
      rw (
        take_at p r at seam,
        take_all (length (tags f)) (bytes f) (omega (arith, length-map (tags f) byte_of)),
        ← seam,
        drop-append-add p r (length (tags f)),
        tags_long f,
      )

  seam_byte : (v : ℕ) → 0 < length r → set (p ++ r) at v ≡ (p ++ (v ∷ [])) ++ drop 1 r
  seam_byte v h =
      ap (λ l. set (p ++ l) at v) (drop-cons r 0 0 h) ∙ set_at p _ (drop 1 r) v at seam ∙ sym (append_assoc p (v ∷ []) (drop 1 r))

-- an element at the seam, tag by tag
module _ (p r : List ℕ) (at c : ℕ) (g h : Forest) (seam : length p ≡ at) (room : 2 * elements (elem c g h) ≤ length r) where
  abbrev opened : List ℕ
  opened = p ++ (c ∷ [])

  abbrev filled : List ℕ
  filled = opened ++ bytes g

  abbrev closed : List ℕ
  closed = filled ++ ((codes + c) ∷ [])

  abbrev last : ℕ
  last = at + 1 + 2 * elements g

  abbrev left : List ℕ
  left = drop (2 * elements g) (drop 1 r)

  opened_long : length opened ≡ at + 1
  opened_long = length-append p (c ∷ []) ∙ omega arith

  filled_long : length filled ≡ last
  filled_long = length-append opened (bytes g) ∙ omega (arith, opened_long, bytes_long g)

  closed_long : length closed ≡ last + 1
  closed_long = length-append filled ((codes + c) ∷ []) ∙ omega (arith, filled_long)

  left_some : 0 < length left
  left_some = simp length-drop (omega arith)

  same_bytes : closed ++ bytes h ≡ p ++ bytes (elem c g h)
  same_bytes = simp (map-append, append_assoc)

  same_rest : drop (2 * elements h) (drop 1 left) ≡ drop (2 * elements (elem c g h)) r
  same_rest =
      let n : 1 + 2 * elements g + 1 + 2 * elements h ≡ 2 * elements (elem c g h) = omega arith in
      simp drop-drop (ap (λ k. drop k r) n)

  seam_elem : with_forest (set (with_forest (set (p ++ r) at c) (at + 1) g) last (codes + c)) (last + 1) h ≡
      with_forest (p ++ r) at (elem c g h)
  seam_elem =
      ap (λ l. with_forest (set (with_forest l (at + 1) g) last (codes + c)) (last + 1) h) (seam_byte p r at seam c (omega arith))
      ∙ ap (λ l. with_forest (set l last (codes + c)) (last + 1) h) (seam_forest opened (drop 1 r) (at + 1) opened_long g)
      ∙ ap (λ l. with_forest l (last + 1) h) (seam_byte filled left last filled_long (codes + c) left_some)
      ∙ seam_forest closed (drop 1 left) (last + 1) closed_long h
      ∙ (rw (same_bytes, same_rest))
      ∙ sym (seam_forest p r at seam (elem c g h))

pub spelled_elem : (b : List ℕ) (at c : ℕ) (g h : Forest) → at + 2 * elements (elem c g h) ≤ length b →
    with_forest (set (with_forest (set b at c) (at + 1) g) (at + 1 + 2 * elements g) (codes + c)) (at + 1 + 2 * elements g + 1) h ≡
    with_forest b at (elem c g h)
spelled_elem b at c g h l =
    rw (take-append-drop at b) at
    (seam_elem (take at b) (drop at b) at c g h (length-take-le at b (omega arith)) (simp length-drop (omega arith)))
