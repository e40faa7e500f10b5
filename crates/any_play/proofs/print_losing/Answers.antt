-- `print_losing` is safe: the number of an answer is counted.
use Rattle.play_losing.proofs.LosingAnswerLaws.{losing_counted}
use Rattle.any_play.proofs.print_losing.Goals as goal

pub losing_number-requires : goal.losing_number-requires
losing_number-requires c = losing_counted c.losing_reply-answer.ensures
