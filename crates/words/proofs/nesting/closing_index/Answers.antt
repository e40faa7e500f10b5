use native.Mathlib.Omega.{arith}
use Rattle.words.proofs.Innermost.{sought_opening, sought_closing, sought_found}
use Rattle.words.proofs.nesting.closing_index.Goals as goal
use Rattle.words.proofs.nesting.closing_index.Goals.{else-is_opening+else-count-eq0, then-is_opening}

pub returns-then-count-eq0 : goal.returns-then-count-eq0
returns-then-count-eq0 c =
    let closes = c.is_opening.ensures.closing c.if-is_opening.false in
    sought_found c.args.rest.now c.loop-i.i c.loop-i.count c.loop-i.invariant.1 c.loop-i-test.true closes c.if-count-eq0.true

pub loop-i-preserved : goal.loop-i-preserved
loop-i-preserved c =
    let s = c.args.rest.now in
    let l = c.loop-i in
    let h = c.loop-i-test.true in
    let is = c.is_opening.ensures in
    elim c.if-is_opening.branch [
      | then-is_opening w ↦
          let opens = is.opening w.if-is_opening.true in
          rw w.count-is (omega (arith, l.invariant.0), sought_opening s l.i l.count l.invariant.1 h opens)
      | else-is_opening+else-count-eq0 w ↦
          let closes = is.closing w.if-is_opening.false in
          let some = w.if-count-eq0.false in
          rw w.count-is (omega (arith, l.invariant.0), sought_closing s l.i l.count l.invariant.1 h closes (omega arith))
    ]
