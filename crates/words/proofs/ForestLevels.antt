-- Where a pass over the tags of a forest stands: for each open element what passed before it and what follows it, the innermost first.
use mathlib.Core.Path.{◌≡◌, refl, sym, ◌∙◌, ap}
use mathlib.Core.List.{List, [], ◌∷◌, ◌++◌, append_assoc}
use Prim.Native.Nat.{ℕ}
use native.Mathlib.Omega.{arith}
use Rattle.words.specs.Tag.{opening, closing, Word}
use Rattle.words.specs.Forest.{Forest, none, elem, tags}
use Rattle.words.proofs.ForestJoined.{joined, joined_none, joined_assoc}

pub record Level : Type 0 where
  pub before : Forest
  pub code : ℕ
  pub after : Forest

-- the whole forest, from what is within the innermost element
abbrev pub whole : List Level → Forest → Forest
whole [] x = x
whole (l ∷ ls) x = whole ls (joined l.before (elem l.code x l.after))

-- the tags that follow the innermost element's inside
abbrev pub left_after : List Level → Word
left_after [] = []
left_after (l ∷ ls) = closing l.code ∷ (tags l.after ++ left_after ls)

-- an element that is closed joins what passed before it
pub closed : (levels : List Level) (l : Level) (ls : List Level) (x g : Forest) → levels ≡ l ∷ ls → g ≡ none →
    whole levels (joined x g) ≡ whole ls (joined (joined l.before (elem l.code x none)) l.after)
closed levels l ls x g e i =
    rw (e, i, joined_none x) (ap (whole ls) (sym (joined_assoc l.before (elem l.code x none) l.after)))

-- The next tag tells what follows: g within the innermost element, and then what is left.
pub record OpeningNext (g : Forest) (ls : List Level) (c : ℕ) (w : Word) : Type 0 where
  pub inside : Forest
  pub after : Forest
  pub is : g ≡ elem c inside after
  pub rest : w ≡ tags inside ++ (closing c ∷ (tags after ++ left_after ls))

pub opening_next : (g : Forest) (ls : List Level) (c : ℕ) (w : Word) → opening c ∷ w ≡ tags g ++ left_after ls → OpeningNext g ls c w
opening_next none [] c w e = let z : ◌≡◌ {A = ℕ} 0 1 = cc in absurd (omega arith)
opening_next none (l ∷ ls) c w e = let z : ◌≡◌ {A = ℕ} 0 1 = cc in absurd (omega arith)
opening_next (elem d f h) ls c w e =
    let same : c ≡ d = cc in
    let rest : w ≡ (tags f ++ closing d ∷ tags h) ++ left_after ls = cc in
    record {
      inside = f;
      after = h;
      is = ap (λ x. elem x f h) (sym same);
      rest = rest ∙ append_assoc (tags f) (closing d ∷ tags h) (left_after ls) ∙
          ap (λ x. tags f ++ (closing x ∷ (tags h ++ left_after ls))) (sym same);
    }

pub record ClosingNext (g : Forest) (ls : List Level) (c : ℕ) (w : Word) : Type 0 where
  pub level : Level
  pub outer : List Level
  pub is : g ≡ none
  pub levels : ls ≡ level ∷ outer
  pub same : level.code ≡ c
  pub rest : w ≡ tags level.after ++ left_after outer

pub closing_next : (g : Forest) (ls : List Level) (c : ℕ) (w : Word) → closing c ∷ w ≡ tags g ++ left_after ls → ClosingNext g ls c w
closing_next none [] c w e = let z : ◌≡◌ {A = ℕ} 0 1 = cc in absurd (omega arith)
closing_next none (l ∷ ls) c w e =
    let same : l.code ≡ c = cc in
    let rest : w ≡ tags l.after ++ left_after ls = cc in
    record { level = l; outer = ls; is = refl; levels = refl; same = same; rest = rest }
closing_next (elem d f h) ls c w e = let z : ◌≡◌ {A = ℕ} 0 1 = cc in absurd (omega arith)

pub nothing_next : (g : Forest) (ls : List Level) → [] ≡ tags g ++ left_after ls → (g ≡ none) × (ls ≡ [])
nothing_next none [] e = (refl, refl)
nothing_next none (l ∷ ls) e = let z : ◌≡◌ {A = ℕ} 0 1 = cc in absurd (omega arith)
nothing_next (elem d f h) ls e = let z : ◌≡◌ {A = ℕ} 0 1 = cc in absurd (omega arith)
