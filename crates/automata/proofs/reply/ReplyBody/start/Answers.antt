-- `automata::reply::ReplyBody::start` meets its contract.
use Rattle.std.proofs.Common.{rules}
use Rattle.automata.specs.ReplyBody.{form_of}
use Rattle.automata.proofs.reply.ReplyBody.start.Goals as goal

pub returns : goal.returns
unfolding form_of
returns c = search rules
