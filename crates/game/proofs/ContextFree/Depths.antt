-- The depths of the tags ahead can be told from the configurations so far. A strategy that calls only at depth 0 is replay-free.
use mathlib.Core.Path.{◌≡◌, refl, ap, subst}
use mathlib.Core.Bool.{Bool, true, false, cond}
use mathlib.Core.List.{List, [], ◌∷◌, ◌++◌, tail}
use Prim.Native.Nat.{ℕ, zero, suc, ◌+◌, ◌-◌, ◌≤◌}
use native.Mathlib.Omega.{arith}
use lib.ListN.{length, replicate, get_or}
use Rattle.words.specs.Tag.{closing, Word}
use Rattle.game.specs.ContextFree.{CfGame, juliet, romeo, Configuration, config, Read, Call, Reply, reads, calls, replies}
use Rattle.game.specs.ContextFree.{Juliet, Romeo, Leads, here, goes, call_depth, ReplayFree}
use Rattle.game.proofs.ContextFree.Ahead.{replied_length}

-- the first tag gives way to n tags of a reply, one deeper
abbrev deeper : ℕ → List ℕ → List ℕ
deeper n ds = replicate n (suc (get_or ds 0 0)) ++ tail ds

-- A Read passes one tag. After a reply there are ahead its own tags and all that were ahead but the one called: so their number tells how
-- long it was.
abbrev pub depths : List Configuration → Configuration → List ℕ
depths [] (config p u v) = replicate (length v) 0
depths (config juliet x y ∷ h) (config juliet u v) = tail (depths h (config juliet x y))
depths (config juliet x y ∷ h) (config romeo u v) = depths h (config juliet x y)
depths (config romeo x y ∷ h) (config p u v) = deeper (suc (length v) - length y) (depths h (config romeo x y))

-- after a reply the depths are told anew: the reply's tags are one deeper than the tag called
pub depths_replied : (h : List Configuration) (u x y z v : Word) (a : ℕ) → length v ≡ length y + length z
    → deeper (length y) (depths h (config romeo u (closing a ∷ z))) ≡ depths (config romeo u (closing a ∷ z) ∷ h) (config juliet x v)
depths_replied h u x y z v a e =
    let long : length y ≡ suc (length v) - suc (length z) = omega arith in
    ap (λ n. deeper n (depths h (config romeo u (closing a ∷ z)))) long

-- no depth of the one list is above that of the other: Juliet may take a tag for deeper than it counts, but not for less deep
record AtMost (ds es : List ℕ) : Type 0 where
  each : (i : ℕ) → get_or ds i 0 ≤ get_or es i 0

get_d_tail : (l : List ℕ) (i : ℕ) → get_or (tail l) i 0 ≡ get_or l (suc i) 0
get_d_tail [] i = refl
get_d_tail (x ∷ l) i = refl

at_most_tail : (ds es : List ℕ) → AtMost ds es → AtMost (tail ds) (tail es)
at_most_tail ds es h = record { each = λ i. rw (get_d_tail ds i, get_d_tail es i) (h.each (suc i)) }

at_most_more : (n d e : ℕ) (ds es : List ℕ) → d ≤ e → AtMost ds es → (i : ℕ)
    → get_or (replicate n d ++ ds) i 0 ≤ get_or (replicate n e ++ es) i 0
at_most_more zero d e ds es l h i = h.each i
at_most_more (suc n) d e ds es l h zero = l
at_most_more (suc n) d e ds es l h (suc i) = at_most_more n d e ds es l h i

at_most_replied : (h : List Configuration) (u x y z v : Word) (a d : ℕ) (ds : List ℕ) → length v ≡ length y + length z
    → AtMost ds (depths h (config romeo u (closing a ∷ z))) → d ≤ suc (get_or (depths h (config romeo u (closing a ∷ z))) 0 0)
    → AtMost (replicate (length y) d ++ tail ds) (depths (config romeo u (closing a ∷ z) ∷ h) (config juliet x v))
at_most_replied h u x y z v a d ds e k l =
    let es = depths h (config romeo u (closing a ∷ z)) in
    subst (λ fs. AtMost (replicate (length y) d ++ tail ds) fs) (depths_replied h u x y z v a e)
    (record { each = at_most_more (length y) d (suc (get_or es 0 0)) (tail ds) (tail es) l (at_most_tail ds es k) })

-- a strategy that plays Call has chosen it
plays_call : (b : Bool) → cond b Call Read ≡ Call → b ≡ true
plays_call true e = refl
plays_call false e = cc

-- a strategy of Juliet's that calls only at depth 0
module _ (G : CfGame) (σ : Juliet G)
    (at_zero : (h : List Configuration) (κ : Configuration) → σ.calls h κ ≡ true → get_or (depths h κ) 0 0 ≡ 0) where
  -- no Call of a strategy that calls only at depth 0 counts more than one
  within_one : (τ : Romeo G) {h : List Configuration} {κ κ' : Configuration} (p : Leads G σ τ h κ κ') (ds : List ℕ) → AtMost ds (depths h κ)
      → call_depth G σ τ p ds ≤ 1
  within_one τ here ds d = omega arith
  within_one τ {h} (goes Read e (reads {u} {v' = v} {s = t} i) p) ds d =
      within_one τ p (tail ds) (at_most_tail ds (depths h (config juliet u (t ∷ v))) d)
  within_one τ {h} (goes Call e (calls {u} {z} {a} m) p) ds d =
      let zero = at_zero h (config juliet u (closing a ∷ z)) (plays_call _ e) in
      let first = d.each 0 in
      let rest = within_one τ p ds d in
      omega arith
  within_one τ {h} (goes (Reply r) e (replies {u} {x} {z = z} {v' = v} {a = a} i n m l) p) ds d =
      let first = d.each 0 in
      within_one τ p _ (at_most_replied h u x r z v a _ ds (replied_length G u x r z v a (replies i n m l)) d (omega arith))

  pub replay_free : ReplayFree G σ
  replay_free w n τ κ p = within_one τ p (replicate (length w) 0) (record { each = λ i. omega arith })
