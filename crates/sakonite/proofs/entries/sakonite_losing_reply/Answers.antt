-- `entries::sakonite_losing_reply` meets its contract.
use Rattle.play_losing.proofs.LosingAnswerLaws.{losing_counted}
use Rattle.sakonite.proofs.entries.sakonite_losing_reply.Goals as goal

pub losing_number-requires : goal.losing_number-requires
losing_number-requires c = losing_counted c.losing_on.ensures
