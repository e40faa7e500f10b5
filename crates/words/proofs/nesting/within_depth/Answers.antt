-- `words::nesting::within_depth` meets its contract: only a depth can be within the limit.
use mathlib.Core.Path.{◌≡◌, sym, ◌∙◌}
use Rattle.std.proofs.Common.{rules}
use Rattle.words.proofs.Judgement.{shallow, judged_within}
use Rattle.words.proofs.nesting.within_depth.Goals as goal

pub returns : goal.returns
returns c =
    let is_shallow : c.is_ok_and.result ≡ shallow c.args.most c.judge.result = search rules in
    is_shallow ∙ judged_within _ _ c.judge.result (sym c.judge.ensures)
