-- `automata::bits::states_from` meets its contract: the bits below are shifted out, and there are none from the last on.
use mathlib.Core.Path.{◌≡◌, sym, ◌∙◌}
use Prim.Native.Nat.{◌*◌, ◌/◌, ◌%◌, ◌^◌}
use native.Mathlib.Omega.{arith}
use native.Mathlib.Nat.{div-mul-le_self, mod-eq_of_lt}
use Rattle.automata.specs.TargetBody.{most_states}
use Rattle.automata.proofs.BitLaws.{bit_zero, bit_beyond}
use Rattle.automata.proofs.ShiftLaws.{shifted_back, shifted_away}
use Rattle.automata.proofs.bits.states_from.Goals as goal

pub returns-then-from-eq-MOST_STATES : goal.returns-then-from-eq-MOST_STATES
returns-then-from-eq-MOST_STATES c =
    record {
      below = λ i h. bit_zero i;
      onward = λ i h. bit_zero i ∙ sym (bit_beyond most_states c.args.mask i (omega arith) (omega arith));
    }

pub returns : goal.returns
returns c =
    let m = c.args.mask in
    let k = c.args.from in
    let less = div-mul-le_self m (2 ^ k) in
    let same : m / 2 ^ k * 2 ^ k % 4294967296 ≡ m / 2 ^ k * 2 ^ k = mod-eq_of_lt (omega arith) in
    rw same (record { below = λ i. shifted_away m k i; onward = λ i. shifted_back m k i })
