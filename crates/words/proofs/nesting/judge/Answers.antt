-- `words::nesting::judge` meets its contract: the first of its tests that fails is the first of the definition's.
use mathlib.Core.Path.{sym, ◌∙◌}
use mathlib.Core.Bool.{true≢false}
use native.Mathlib.Omega.{arith}
use Rattle.words.proofs.Judgement.{judged_long, judged_no_tag, judged_word}
use Rattle.words.proofs.nesting.judge.Goals as goal

pub returns-then-s-gt-MOST_TAGS : goal.returns-then-s-gt-MOST_TAGS
returns-then-s-gt-MOST_TAGS c = sym (judged_long c.args.s.now c.if-s-gt-MOST_TAGS.true)

pub returns-then-all_below : goal.returns-then-all_below
returns-then-all_below c =
    c.scan.ensures ∙ sym (judged_word c.args.s.now (omega arith) (λ k h. c.all_below.ensures.0 c.if-all_below.true k (omega arith) h))

pub returns-else-all_below : goal.returns-else-all_below
returns-else-all_below c =
    let s = c.args.s.now in
    sym (judged_no_tag s (omega arith) (λ t. true≢false (sym (c.all_below.ensures.1 (λ k _ h. t k h)) ∙ c.if-all_below.false)))
