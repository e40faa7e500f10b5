-- `reply_refusal` meets its contract: a read gets none of these refusals.
use mathlib.Core.List.{[]}
use Rattle.job.proofs.Refusals.{passed_first}
use Rattle.play.proofs.refusal.reply_refusal.Goals as goal

pub returns-in-Read : goal.returns-in-Read
returns-in-Read c = rw c.in-Read.is (passed_first [] tt)
