use mathlib.Core.Path.{◌≡◌, ap, ◌∙◌}
use native.Mathlib.Omega.{arith}
use native.Mathlib.Numerals.{add-one}
use borrow.Author.Rules.{rules}
use lib.ListN.{length}
use lib.Seq.{paste-zero, paste-suc, length-paste}
use Rattle.words.proofs.paste.paste.Goals as goal

pub loop-i-init : goal.loop-i-init
loop-i-init c = (search rules, paste-zero c.args.buffer.now c.args.at c.args.piece.now)

pub bounds-buffer-at : goal.bounds-buffer-at
bounds-buffer-at c =
    omega (
      arith,
      (let a = c.args in
          ap length c.loop-i.invariant.1 ∙ length-paste a.buffer.now a.at a.piece.now c.loop-i.i (omega arith) c.loop-i.invariant.0),
    )

pub loop-i-preserved : goal.loop-i-preserved
loop-i-preserved c =
    let l = c.loop-i in
    let a = c.args in
    let next = paste-suc a.buffer.now a.at a.piece.now l.i 0 (omega arith) (omega arith) in
    (search rules, rw (l.invariant.1, add-one l.i) next)

pub shape_of-buffer : goal.shape_of-buffer
shape_of-buffer c =
    (let a = c.args in
    ap length c.loop-i.invariant.1 ∙ length-paste a.buffer.now a.at a.piece.now c.loop-i.i (omega arith) c.loop-i.invariant.0)

pub returns : goal.returns
returns c = let e : c.loop-i.i ≡ length c.args.piece.now = omega arith in rw e at c.loop-i.invariant.1
