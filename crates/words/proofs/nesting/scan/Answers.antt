use mathlib.Core.Path.{sym, ◌∙◌, ap}
use Rattle.std.proofs.Math.Bool.{false≢true}
use native.Mathlib.Omega.{arith}
use lib.ListN.{length}
use Rattle.words.proofs.Pass.{scanned_opening, scanned_closing, unopened, crossed, shut, unshut}
use Rattle.words.proofs.nesting.scan.Goals as goal
use Rattle.words.proofs.nesting.scan.Goals.{else-is_opening+in-Some+else-from-code_of, then-is_opening}

pub returns-in_default : goal.returns-in_default
returns-in_default c =
    let closes = c.is_opening.ensures.closing c.if-is_opening.false in
    sym (unopened c.loop-b.invariant c.loop-b-test.true closes c.in_default.ensures.0)

pub returns-then-from-code_of : goal.returns-then-from-code_of
returns-then-from-code_of c =
    let closes = c.is_opening.ensures.closing c.if-is_opening.false in
    let code = c.code_of.ensures.closing closes in
    sym (crossed c.loop-b.invariant c.loop-b-test.true closes c.in-Some.ensures
    (λ e. omega (arith, c.if-from-code_of.true, c.from.ensures)))

pub loop-b-preserved : goal.loop-b-preserved
loop-b-preserved c =
    let k = c.loop-b.invariant in
    let h = c.loop-b-test.true in
    let is = c.is_opening.ensures in
    elim c.if-is_opening.branch [
      | then-is_opening w ↦
          let more = w.max-most.ensures in
          let deep = w.len.ensures ∙ ap length w.push.ensures in
          rw (w.open-is, w.most-is, w.push.ensures) (scanned_opening k h (is.opening w.if-is_opening.true) (omega arith))
      | else-is_opening+in-Some+else-from-code_of w ↦
          let closes = is.closing w.if-is_opening.false in
          let code = w.code_of.ensures.closing closes in
          let same = w.from.ensures in
          rw (w.open-is, w.most-is) (scanned_closing k h closes w.in-Some.ensures (omega (arith, w.if-from-code_of.false)))
    ]

pub returns-then-is_empty : goal.returns-then-is_empty
returns-then-is_empty c = sym (shut c.loop-b.invariant c.loop-b-test.false (c.is_empty.ensures.0 c.if-is_empty.true))

pub returns-else-is_empty : goal.returns-else-is_empty
returns-else-is_empty c =
    sym (unshut c.loop-b.invariant c.loop-b-test.false (λ e. false≢true (sym c.if-is_empty.false ∙ c.is_empty.ensures.1 e)))
