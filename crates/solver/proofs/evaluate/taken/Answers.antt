-- `evaluate::taken` meets its contract: the flag, shifted, is the element's bit or nothing.
use mathlib.Core.Path.{◌≡◌, ap, ◌∙◌}
use mathlib.Core.Bool.{Bool, true, false, cond}
use Prim.Native.Nat.{ℕ, suc, ◌*◌, ◌^◌, ◌%◌, ◌<◌}
use native.Mathlib.Omega.{arith}
use native.Mathlib.Nat.{pow-suc}
use mir.Val.{bool_byte}
use lib.Bits.{bit_or}
use lib.Pow.{pow_mono, pow_pos}
use Rattle.std.specs.Int.Bits.{or_zero_r}
use Rattle.solver.proofs.evaluate.taken.Goals as goal

or_taken : (take : Bool) (k p m : ℕ) → k ≡ bool_byte take → p < 4294967296 → bit_or m (k * p % 4294967296) ≡ cond take (bit_or m p) m
or_taken true k p m e h = let q : k * p % 4294967296 ≡ p = rw e (omega arith) in ap (λ x. bit_or m x) q
or_taken false k p m e h = let q : k * p % 4294967296 ≡ 0 = rw e (omega arith) in ap (λ x. bit_or m x) q ∙ or_zero_r m

power_small : (i : ℕ) → i < 32 → 2 ^ i < 4294967296
power_small i h = let p = pow_mono {i = suc i} {j = 32} (omega arith) in let s = pow-suc 2 i in let z = pow_pos i in omega arith

pub returns : goal.returns
returns c = or_taken c.args.take c.from.result (2 ^ c.args.i) c.args.mask c.from.ensures (power_small c.args.i c.requires)
