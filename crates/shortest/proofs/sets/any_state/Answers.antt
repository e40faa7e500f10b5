use Rattle.std.proofs.Common.{◌≡◌, true, ◌↔◌, ℕ, ◌<◌, length, get_or, rules, arith, sym, ◌∙◌, ap}
use Rattle.std.proofs.Math.Bool.{true≢false}
use Rattle.std.proofs.iter.runs.Made.{chains}
use Rattle.std.specs.Int.Count.{count_trailing_zeros}
use Rattle.automata.specs.Bits.{bit}
use Rattle.automata.specs.TargetBody.{most_states}
use Rattle.automata.proofs.BitLaws.{bit_zero, zeros_end}
use Rattle.shortest.proofs.sets.any_state.Goals as goal
use Rattle.shortest.proofs.sets.any_state.Goals.{After-any}

-- some mask is not 0
nonzero : (c : After-any) → (c.any.result ≡ true) ↔ ((i : ℕ) × (i < length c.args.masks.now) × ¬ (get_or c.args.masks.now i 0 ≡ 0))
nonzero c = search (rules, chains)

pub returns : goal.returns
returns c = (
  λ r.
      let (i, h, n) = (nonzero c).0 r in
      let (l, m) = zeros_end most_states (get_or c.args.masks.now i 0) (omega arith) (search rules) in
      (i, count_trailing_zeros most_states (get_or c.args.masks.now i 0), h, l, m),
  λ (i, s, h, l, m). (nonzero c).1 (i, h, λ e. true≢false (sym m ∙ ap (λ w. bit w s) e ∙ bit_zero s)),
)
