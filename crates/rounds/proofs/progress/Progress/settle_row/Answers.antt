use mathlib.Core.Path.{◌≡◌, sym, ◌∙◌}
use mathlib.Core.Bool.{Bool, true, false, false≢true}
use native.Mathlib.Omega.{arith}
use Rattle.relaxation.specs.Inner.Lengths.{length_of}
use Rattle.rounds.proofs.SettlingLaws.{row_more, row_less, row_other, row_old}
use Rattle.rounds.proofs.progress.Progress.settle_row.Goals as goal
use Rattle.rounds.proofs.progress.Progress.settle_row.Goals.{else-k-l+else-k-left, else-k-l+then-k-left+else-not-is_member-2}
use Rattle.rounds.proofs.progress.Progress.settle_row.Goals.{else-k-l+then-k-left+then-not-is_member-2, then-k-l+else-not-is_member}
use Rattle.rounds.proofs.progress.Progress.settle_row.Goals.{then-k-l+then-not-is_member}

-- a test that is a bit says that there is no member
no_member : {a b : Bool} → a ≡ b → a ≡ false → ¬ (b ≡ true)
no_member e n m = false≢true (sym n ∙ (e ∙ m))

pub loop-z-preserved : goal.loop-z-preserved
unfolding length_of
loop-z-preserved c =
    let l = c.loop-z in
    let (b, e, el, ei) = l.invariant in
    elim c.if-k-l.branch [
      | then-k-l+then-not-is_member w ↦ rw (w.self-is, w.found-is, w.left-is) (
        row_more _ _ _ _ _ _ l.z b (omega arith) (omega arith) (no_member w.is_member.ensures w.if-not-is_member.true)
            (rw e at w.if-k-l.true) w.insert.ensures w.insert-then-not-is_member.ensures w.insert-then-not-is_member-2.ensures,
        e,
        el,
        ei,
      )
      | then-k-l+else-not-is_member w ↦ rw (w.self-is, w.found-is, w.left-is) (
        row_old _ _ _ _ _ _ l.z b (omega arith) (omega arith) (sym w.is_member.ensures ∙ w.if-not-is_member.false),
        e,
        el,
        ei,
      )
      | else-k-l+then-k-left+then-not-is_member-2 w ↦ rw (w.self-is, w.found-is, w.left-is) (
        rw e (row_less _ _ _ _ _ _ l.z b (omega arith) (omega arith)
            (no_member w.is_member-then-k-left.ensures w.if-not-is_member-2.true)
            (rw e at w.if-k-l.false) (rw e at w.if-k-left.true)),
        e,
        el,
        ei,
      )
      | else-k-l+then-k-left+else-not-is_member-2 w ↦ rw (w.self-is, w.found-is, w.left-is) (
        row_old _ _ _ _ _ _ l.z b (omega arith) (omega arith) (sym w.is_member-then-k-left.ensures ∙ w.if-not-is_member-2.false),
        e,
        el,
        ei,
      )
      | else-k-l+else-k-left w ↦ rw (w.self-is, w.found-is, w.left-is) (
        row_other _ _ _ _ _ _ l.z b (omega arith) (omega arith) (rw e at w.if-k-l.false) (rw e at w.if-k-left.false),
        e,
        el,
        ei,
      )
    ]
