-- `rounds::progress::Progress::use_row` meets its contract: the three kinds of candidates, one after the other.
use Rattle.rounds.proofs.UsingLaws.{row_all}
use Rattle.rounds.proofs.progress.Progress.use_row.Goals as goal

pub returns : goal.returns
returns c =
    row_all _ _ c.requires.0 c.requires.1 c.requires.2 _ c.requires.3 c.use_inside.ensures c.use_ahead.ensures c.use_behind.ensures
