-- `play::fits::rising` meets its contract.
use borrow.Author.Rules.{rules}
use Rattle.std.proofs.lemmas.List.Sorted.{non_decreasing_from_is_sorted}
use Rattle.play.proofs.FitLaws.{rising_tested}
use Rattle.play.proofs.fits.rising.Goals as goal

pub returns : goal.returns
returns c =
    rising_tested c.args.l c.args.depth (search rules) _ (non_decreasing_from_is_sorted _ _ c.is_sorted.ensures.cases)
