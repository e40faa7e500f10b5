-- `play::Play::past_reply` meets its contract: the reply's run goes on from the state that was kept.
use native.Mathlib.Omega.{arith}
use Rattle.play.proofs.MoveLaws.{few_held}
use Rattle.play.proofs.Play.past_reply.Goals as goal

pub newest_kept-kept-requires : goal.newest_kept-kept-requires
newest_kept-kept-requires c = (c.requires.1, few_held c.args.target.bytes.now c.args.«record».now c.args.self c.requires.0)

pub after_fetch-requires : goal.after_fetch-requires
after_fetch-requires c = (
  c.requires.1,
  few_held c.args.target.bytes.now c.args.«record».now c.args.self c.requires.0,
  omega (arith, c.requires.0.left, c.requires.0.is_record.word.short),
  c.requires.3,
)
