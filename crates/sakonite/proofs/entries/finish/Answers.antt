-- `entries::finish` meets its contract.
use mathlib.Core.Path.{ap, refl}
use lib.ListN.{length}
use Rattle.std.proofs.lemmas.Result.{err_from_is_err_and}
use Rattle.sakonite.proofs.AnswerLaws.{file_refused, finished_bound}
use Rattle.sakonite.proofs.entries.finish.Goals as goal

pub returns-in_err-job : goal.returns-in_err-job
returns-in_err-job c =
    let p = err_from_is_err_and c.from_residual.result c.from_residual.ensures.1 in
    rw (p.1, p.2) (file_refused c.args.file.now c.args.history.now (λ p m. length c.args.buffer.now) _ c.in_err-job.ensures, refl)

pub returns-in_err-play : goal.returns-in_err-play
returns-in_err-play c =
    let p = err_from_is_err_and c.from_residual-in_err-play.result c.from_residual-in_err-play.ensures.1 in
    rw (p.1, p.2) (rw c.accepted-accepted.ensures at c.in_err-play.ensures, refl)

pub returns : goal.returns
returns c =
    let played = rw c.accepted-accepted.ensures at c.in_ok-play.ensures in
    let few = finished_bound c.args.file.now c.args.history.now c.args.buffer.now played.0 in
    (played.0, ap (λ p. p.count) played.1, rw played.1 few, rw c.accepted-accepted.ensures at c.play_moves.ensures)
