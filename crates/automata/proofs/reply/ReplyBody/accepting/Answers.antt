-- `automata::reply::ReplyBody::accepting` meets its contract.
use Rattle.std.proofs.Common.{rules, ap}
use Rattle.automata.specs.Bits.{bit}
use Rattle.automata.specs.ReplyBody.{form_of}
use Rattle.automata.proofs.reply.ReplyBody.accepting.Goals as goal

pub returns : goal.returns
unfolding form_of
returns c = (λ p. ap (λ m. bit m p) c.from.ensures, search rules)
