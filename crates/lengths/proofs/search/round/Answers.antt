-- `lengths::search::round` meets its contract: what is due is settled, used and put aside.
use native.Mathlib.Omega.{arith}
use Rattle.automata.proofs.TargetTables.{few_target_states}
use Rattle.lengths.proofs.RoundLaws.{round_begun, level_capped, with_found, noted₂, more₂, as_next, as_found, round_done}
use Rattle.lengths.proofs.search.round.Goals as goal

pub sum-requires : goal.sum-requires
sum-requires c =
    let p = c.requires in
    let r = round_begun (few_target_states _ c.args.elements.target.valid) p.0 p.1 c.settle_rows.ensures.settled in
    (level_capped r, omega arith)

pub use_rows-requires : goal.use_rows-requires
use_rows-requires c =
    let p = c.requires in
    let s = c.settle_rows.ensures in
    let r = round_begun (few_target_states _ c.args.elements.target.valid) p.0 p.1 s.settled in
    let g = c.settle_rows.new.found in
    let (usable, known, into) = with_found r {g = g} (as_found {f = g} s.others.0) in
    (rw c.sum.ensures usable, known, rw s.others.1 into, noted₂ r)

pub returns : goal.returns
returns c =
    let p = c.requires in
    let s = c.settle_rows.ensures in
    let r = round_begun (few_target_states _ c.args.elements.target.valid) p.0 p.1 s.settled in
    let g = c.settle_rows.new.found in
    let relaxed = as_next r _ c.sum.ensures g _ (as_found {f = g} s.others.0) _ s.others.1 c.use_rows.ensures in
    rw c.forget_rows.ensures.1 (round_done r _ relaxed _ _ (rw s.others.1 at c.forget_rows.ensures.0) (more₂ r))
