-- `shortest::first::WayOut::write_first` meets its contract: the rules are compiled, the first goals set, and the first forest that is
-- wanted is written; it spells the reply.
use Rattle.std.proofs.Common.{arith}
use Rattle.replies.specs.Inner.Transitions.{transition_count}
use Rattle.replies.proofs.TransitionLaws.{bare_zeros}
use Rattle.shortest.proofs.FirstLaws.{body_tables, body_sought, body_written}
use Rattle.shortest.proofs.first.WayOut.write_first.Goals as goal

pub compile_rules-requires : goal.compile_rules-requires
compile_rules-requires c = (omega arith, bare_zeros transition_count 0)

pub spell-requires : goal.spell-requires
spell-requires c =
    let (hq, least, short, room) = c.requires.least in
    let vt = c.args.target.valid in
    let vr = c.args.self.reply.valid in
    let r = c.compile_rules.ensures.is in (
      record { valid = vt; form = _; tables = body_tables _ _ _ _ vt vr c.requires.tables _ r },
      body_sought _ _ _ _ vt vr c.requires.tables _ _ _ hq least short _ r _ c.goals-goals.ensures _ room,
      hq,
    )

pub returns : goal.returns
returns c =
    let (hq, least, short, room) = c.requires.least in
    let vt = c.args.target.valid in
    let vr = c.args.self.reply.valid in
    let d = c.requires.tables in
    let r = c.compile_rules.ensures.is in
    body_written _ _ _ _ vt vr d _ _ _ hq least short _ r _ c.goals-goals.ensures _ _ _
    (c.spell.ensures _ (body_tables _ _ _ _ vt vr d _ r))
