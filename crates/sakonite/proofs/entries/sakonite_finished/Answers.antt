-- `entries::sakonite_finished` meets its contract.
use Rattle.sakonite.proofs.AnswerLaws.{finished_refused, finished_given}
use Rattle.sakonite.proofs.entries.sakonite_finished.Goals as goal

pub returns-in-Ok : goal.returns-in-Ok
returns-in-Ok c =
    let done = c.in-Ok.ensures in
    finished_given c.args.file.now c.args.history.now c.args.buffer.now done.0 _ _ done.1 done.3

pub returns-in-Err : goal.returns-in-Err
returns-in-Err c =
    let refused = c.in-Err.ensures in
    rw (c.from.ensures, refused.1) (finished_refused c.args.file.now c.args.history.now c.args.buffer.now _ refused.0)
