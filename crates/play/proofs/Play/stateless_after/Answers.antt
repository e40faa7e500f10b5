-- `Play::stateless_after` meets its contract.
use Rattle.play.proofs.StatelessLaws.{few_there, position_fits, count_fits, some_fetched}
use Rattle.play.proofs.Play.stateless_after.Goals as goal

pub newest_begin-begin-requires : goal.newest_begin-begin-requires
newest_begin-begin-requires c =
    let w = rw c.in-Fetch.is at c.requires in
    (some_fetched _ _ w, few_there _ _ w)

pub closed_last-requires : goal.closed_last-requires
closed_last-requires c =
    let w = rw c.in-Fetch.is at c.requires in
    (some_fetched _ _ w, few_there _ _ w, position_fits _ _ w, rw c.newest_begin-begin.ensures (count_fits _ _ w))
