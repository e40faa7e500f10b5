-- `skip` is safe and ends: each turn reads past some bytes.
use Rattle.any_play.proofs.skip.Given as goal

abbrev pub decreases-loop-left : goal.decreases-loop-left
decreases-loop-left l = l.left
