-- `Play::call` meets its contract.
use Rattle.play.specs.Inner.MoveParts.{call_of}
use Rattle.play.proofs.EntryLaws.{move_refused, move_made}
use Rattle.play.proofs.Play.call.Goals as goal

pub returns-in-Ok : goal.returns-in-Ok
returns-in-Ok c = move_made c.args.file.now c.args.self (call_of c.args.call) c.args.buffer.now _ _ c.in-Ok.ensures

pub returns-in-Err : goal.returns-in-Err
returns-in-Err c =
    rw c.in-Err.ensures.1
    (move_refused c.args.file.now c.args.self (call_of c.args.call) c.args.buffer.now _ c.in-Err.ensures.0)
