-- `Play::made_stateless` meets its contract.
use Rattle.play.specs.Inner.MoveParts.{call_of}
use Rattle.play.proofs.StatelessLaws.{left_there, open_there}
use Rattle.play.proofs.Play.made_stateless.Goals as goal

pub write-requires-clause-fact : goal.write-requires-clause-fact
write-requires-clause-fact c =
    let w = c.requires.0 in
    (open_there _ _ (call_of c.args.call) w, left_there _ _ w)
