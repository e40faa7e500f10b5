-- `losing_reply` meets its contract: what advice is refused for comes first.
use Rattle.std.proofs.lemmas.Result.{err_from_is_err_and}
use Rattle.play_losing.proofs.LosingAnswerLaws.{asked_advice, losing_refused}
use Rattle.play_losing.proofs.losing_reply.Goals as goal

pub returns-in_err-fitted : goal.returns-in_err-fitted
returns-in_err-fitted c =
    let file = c.args.file.now in
    let p = c.args.p in
    let r = err_from_is_err_and c.from_residual.result c.from_residual.ensures.1 in
    rw (r.1, r.2) (losing_refused file p c.args.buffer.now _ (asked_advice file p _ c.in_err-fitted.ensures))
