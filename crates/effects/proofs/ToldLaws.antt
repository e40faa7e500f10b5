-- What a number tells, by how large it is.
use mathlib.Core.Path.{◌≡◌, refl, sym, ◌∙◌, ap}
use mathlib.Core.Bool.{Bool, true, false, cond}
use Prim.Native.Nat.{ℕ, zero, suc, ◌*◌, ◌-◌, ◌<◌, ◌≤◌}
use native.Mathlib.Omega.{arith}
use borrow.Author.Tests.{lt-ltb, le-ltb}
use lib.Dec.{ltb}
use Rattle.effects.specs.Effect.{most_counted}
use Rattle.effects.specs.Effects.{told, long_number}
use Rattle.effects.specs.Inner.Sets.{reached}
use Rattle.effects.specs.declared.Shortest.TheVariants.{Unreached, Tags, Longer}

-- a number that is counted, and one that is too large; and how the code has them
pub told_counted : (k : ℕ) → 2 * k ≤ most_counted → told (suc k) ≡ Tags (2 * k)
unfolding told
told_counted k h = rw (le-ltb most_counted (2 * k) h) refl

pub told_long : (k : ℕ) → most_counted < 2 * k → told (suc k) ≡ Longer
unfolding told
told_long k h = rw (lt-ltb most_counted (2 * k) h) refl

pub told_none : (n : ℕ) → n ≡ 0 → Unreached ≡ told n
unfolding told
told_none n e = rw e refl

pub told_tags : (n : ℕ) → ¬ (n ≡ 0) → n < long_number → Tags (2 * (n - 1)) ≡ told n
unfolding told
told_tags zero d l = absurd (d refl)
told_tags (suc k) d l =
    let e : suc k - 1 ≡ k = omega arith in
    ap (λ m. Tags (2 * m)) e ∙ sym (told_counted k (omega arith))

pub told_longer : (n : ℕ) → long_number ≤ n → Longer ≡ told n
unfolding told
told_longer zero l = absurd (omega arith)
told_longer (suc k) l = sym (told_long k (omega arith))

-- a state is reached exactly when its number is not 0
some_reached : (b : Bool) (n : ℕ) → reached (cond b Longer (Tags n)) ≡ true
some_reached true n = refl
some_reached false n = refl

pub told_reached : (n : ℕ) → ¬ (n ≡ 0) → reached (told n) ≡ true
unfolding told
told_reached zero d = absurd (d refl)
told_reached (suc k) d = some_reached (ltb most_counted (2 * k)) (2 * k)

pub told_unreached : (n : ℕ) → n ≡ 0 → reached (told n) ≡ false
unfolding told
told_unreached n e = rw e refl
