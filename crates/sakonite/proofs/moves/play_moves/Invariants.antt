-- `moves::play_moves` meets its contract: at each turn the calls left go on from a play at the place reached, in the buffer as it is.
use Rattle.sakonite.specs.Entries.{calls_of}
use Rattle.sakonite.proofs.PlayedLaws.{PlayReached}
use Rattle.sakonite.proofs.moves.play_moves.Given as goal

abbrev pub invariant-loop-call : goal.invariant-loop-call
invariant-loop-call l =
    PlayReached l.file.file.now l.history l.initial.buffer (calls_of l.call-iterator.rest.now) l.play l.buffer
