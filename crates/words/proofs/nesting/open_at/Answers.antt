use mathlib.Core.Path.{refl}
use Prim.Native.Nat.{◌<◌}
use native.Mathlib.Omega.{arith}
use Rattle.std.proofs.lemmas.List.{length-take-le, get_or-take}
use Rattle.words.specs.Opened.{open_at}
use Rattle.words.proofs.OpenLaws.{open_byte, close_byte}
use Rattle.words.proofs.nesting.open_at.Goals as goal
use Rattle.words.proofs.nesting.open_at.Goals.{else-is_opening, then-is_opening}

pub loop-b-init : goal.loop-b-init
unfolding open_at
loop-b-init c = (omega arith, refl)

pub overflow_sub-count : goal.overflow_sub-count
overflow_sub-count c =
    let word = c.args.word.now in
    let i = c.loop-b.b-index in
    let h : i < c.args.position = omega (arith, length-take-le c.args.position word c.requires.1) in
    let closes = rw (get_or-take c.args.position word i 0 h) at (c.is_opening.ensures.closing c.if-is_opening.false) in
    omega (arith, close_byte word i (omega arith) c.requires.0 closes)

pub loop-b-preserved : goal.loop-b-preserved
loop-b-preserved c =
    let word = c.args.word.now in
    let i = c.loop-b.b-index in
    let h : i < c.args.position = omega (arith, length-take-le c.args.position word c.requires.1) in
    let is = rw (get_or-take c.args.position word i 0 h) at c.is_opening.ensures in
    elim c.if-is_opening.branch [
      | then-is_opening w ↦ omega (arith, w.count-is, open_byte word i (omega arith) (is.opening w.if-is_opening.true))
      | else-is_opening w ↦ omega (arith, w.count-is, close_byte word i (omega arith) c.requires.0 (is.closing w.if-is_opening.false))
    ]
