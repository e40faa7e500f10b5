use native.Mathlib.Omega.{arith}
use Rattle.words.proofs.OpenLaws.{open_up, open_down}
use Rattle.words.proofs.StackLaws.{popped_some, popped_is}
use Rattle.automata.proofs.TargetTables.{state_small}
use Rattle.automata.proofs.TargetPass.{ran_none, ran_opening, ran_closing, ran_end}
use Rattle.automata.proofs.target.TargetBody.run_over.Goals as goal
use Rattle.automata.proofs.target.TargetBody.run_over.Goals.{else-is_opening, then-is_opening}

pub loop-b-init : goal.loop-b-init
loop-b-init c =
    rw c.new-kept.ensures (ran_none c.requires.1 (state_small c.args.self.bytes.now c.args.self.valid c.args.q c.requires.1))

pub push-requires : goal.push-requires
push-requires c =
    let opens = c.is_opening.ensures.opening c.if-is_opening.true in
    (omega arith, (open_up c.requires.0 c.loop-b-test.true c.loop-b.invariant.counted opens).0)

pub unwrap-back-requires : goal.unwrap-back-requires
unwrap-back-requires c =
    let closes = c.is_opening.ensures.closing c.if-is_opening.false in
    popped_some _ _ c.pop.result c.pop.ensures (open_down c.requires.0 c.loop-b-test.true c.loop-b.invariant.counted closes).0

pub loop-b-preserved : goal.loop-b-preserved
loop-b-preserved c =
    let small = c.requires.0 in
    let k = c.loop-b.invariant in
    let h = c.loop-b-test.true in
    let code = c.code_of-c.ensures in
    let is = c.is_opening.ensures in
    elim c.if-is_opening.branch [
      | then-is_opening w ↦
          let opens = is.opening w.if-is_opening.true in
          let next = w.open_to-state.ensures in
          rw (w.kept-is, w.state-is, w.push.ensures) (ran_opening small k h code opens next.is next.one_of next.small)
      | else-is_opening w ↦
          let closes = is.closing w.if-is_opening.false in
          let next = w.close_to-state.ensures in
          let back = popped_is w.pop.ensures w.unwrap-back.ensures in
          rw (w.kept-is, w.state-is) (ran_closing small k h code closes back (rw w.from.ensures at next.is) next.one_of next.small)
    ]

pub returns : goal.returns
returns c =
    let k = c.loop-b.invariant in
    record { reaches = ran_end c.requires.0 k c.loop-b-test.false; one_of = k.state_below; small = k.state_small }
