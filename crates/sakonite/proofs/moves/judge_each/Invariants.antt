-- `moves::judge_each` meets its contract: at each turn the calls left go on from the play reached, which fits.
use Rattle.sakonite.specs.Entries.{calls_of}
use Rattle.sakonite.proofs.PlayedLaws.{SameFrom}
use Rattle.sakonite.proofs.RoomLaws.{Modest}
use Rattle.sakonite.proofs.moves.judge_each.Given as goal

abbrev pub invariant-loop-call : goal.invariant-loop-call
invariant-loop-call l =
    SameFrom l.file.file.now l.fn.calls.rest.now l.room l.play (calls_of l.call-iterator.rest.now) × Modest l.file.file.now l.play
