use mathlib.Core.Path.{◌≡◌, sym, ◌∙◌, ap, ap₂}
use Prim.Native.Nat.{ℕ, ◌+◌, ◌<◌}
use native.Mathlib.Omega.{arith}
use borrow.Author.Count.{below_more}
use lib.ListN.{get_or, set, length-set}
use lib.Seq.{get_or-set_same, get_or-set_other}
use Rattle.contents.specs.Contents.{entry_count, offset_at}
use Rattle.contents.proofs.ContentLaws.{due_at, due_all, offset_more, offsets_are}
use Rattle.contents.proofs.locate.Goals as goal

pub returns-then-not-is_due : goal.returns-then-not-is_due
returns-then-not-is_due c =
    λ v. let due = due_at c.args.file.now v.in_order c.loop-i.i c.loop-i-test.true in
    let e = c.is_due.ensures.1 due in cc

pub loop-i-preserved : goal.loop-i-preserved
loop-i-preserved c =
    let turn = c.loop-i in
    let file = c.args.file.now in
    let at = set turn.at turn.i turn.reader.next in
    let kept : c.past-reader.result.file.now ≡ file = cc in
    let next : c.past-reader.result.next ≡ offset_at file (turn.i + 1) =
    c.past-reader.ensures.1 ∙ ap₂ ◌+◌ turn.invariant.1 c.length_at-len.ensures.0 ∙ sym (offset_more file turn.i) in
    let stored : get_or at turn.i 0 ≡ offset_at file turn.i =
    get_or-set_same turn.at turn.i turn.reader.next 0 (omega arith) ∙ turn.invariant.1 in
    let others : (k : ℕ) → k < turn.i → get_or at k 0 ≡ offset_at file k =
    λ k h. get_or-set_other turn.at turn.i k turn.reader.next 0 (λ e. omega arith) ∙ turn.invariant.4 k h in (
      kept,
      next,
      omega arith,
      length-set turn.at turn.i turn.reader.next ∙ turn.invariant.3,
      below_more _ turn.i others stored,
      below_more _ turn.i turn.invariant.5 (c.is_due.ensures.0 c.if-not-is_due.false),
    )

pub returns : goal.returns
returns c =
    let file = c.args.file.now in
    let last = c.loop-i in
    let e : last.i ≡ entry_count = omega arith in
    record {
      contents = record {
        count = sym c.read_two.ensures.0 ∙ c.if-read_two-ne-ENTRIES.false;
        in_order = due_all file (λ i h. last.invariant.5 i (rw e h));
        fits = sym (last.invariant.1 ∙ ap (offset_at file) e) ∙ c.if-reader-file.false;
      };
      at = offsets_are _ last.at last.invariant.3 (λ i h. last.invariant.4 i (rw e h));
    }
