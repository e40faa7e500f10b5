use mathlib.Core.Path.{refl}
use Prim.Native.Nat.{◌+◌}
use native.Mathlib.Omega.{arith}
use lib.ListN.{length-set}
use Rattle.words.specs.Opened.{open_at}
use Rattle.automata.specs.Small.{most_reply_depth}
use Rattle.words.proofs.OpenLaws.{open_up, open_down}
use Rattle.replies.proofs.LawfulPass.{runs_none, runs_opening, runs_closing, runs_end}
use Rattle.replies.proofs.lawful.runs.Goals as goal
use Rattle.replies.proofs.lawful.runs.Goals.{else-is_opening, then-is_opening}

pub loop-b-init : goal.loop-b-init
unfolding open_at
loop-b-init c = (runs_none (most_reply_depth + 1) c.requires.1.word.nested (omega arith), refl, refl, omega arith)

pub bounds-open-count : goal.bounds-open-count
bounds-open-count c =
    omega (
      arith,
      (let opens = c.is_opening.ensures.opening c.if-is_opening.true in
          (open_up c.requires.1 c.loop-b-test.true c.loop-b.invariant.2 opens).0),
    )

pub overflow_sub-count : goal.overflow_sub-count
overflow_sub-count c =
    omega (
      arith,
      (let closes = c.is_opening.ensures.closing c.if-is_opening.false in
          (open_down c.requires.1 c.loop-b-test.true c.loop-b.invariant.2 closes).0),
    )

pub loop-b-preserved : goal.loop-b-preserved
loop-b-preserved c =
    let small = c.requires.1 in
    let (k, long, counted, few) = c.loop-b.invariant in
    let h = c.loop-b-test.true in
    let is = c.is_opening.ensures in
    elim c.if-is_opening.branch [
      | then-is_opening w ↦ let opens = is.opening w.if-is_opening.true in
          let (room, next) = open_up small h counted opens in
          rw (w.open-is, w.count-is) (runs_opening k h opens (omega arith), simp length-set long, next, omega arith)
      | else-is_opening w ↦ let closes = is.closing w.if-is_opening.false in
          let next = (open_down small h counted closes).1 in
          let passed = runs_closing k h closes w.code_of.ensures (omega arith) w.over_element.ensures w.compose.ensures in
          rw (w.open-is, w.count-is) (passed, simp length-set long, next, omega arith)
    ]

pub returns : goal.returns
returns c = runs_end c.loop-b.invariant.0 c.loop-b-test.false
