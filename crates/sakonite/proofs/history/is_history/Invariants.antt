-- `history::is_history` meets its contract.
use mathlib.Core.Logic.{◌↔◌}
use lib.ListN.{length}
use Rattle.sakonite.specs.History.{IsHistory}
use Rattle.sakonite.proofs.history.is_history.Given as goal

abbrev pub invariant-loop-step : goal.invariant-loop-step
invariant-loop-step l = IsHistory l.rest ↔ IsHistory l.history

abbrev pub decreases-loop-step : goal.decreases-loop-step
decreases-loop-step l = length l.rest
