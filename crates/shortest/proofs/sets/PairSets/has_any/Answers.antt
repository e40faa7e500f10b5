use Rattle.std.proofs.Common.{arith}
use Rattle.relaxation.specs.Inner.Pairs.{form_part, target_part}
use Rattle.relaxation.specs.Inner.PairSet.{mask_index}
use Rattle.shortest.proofs.ChooseLaws.{bit_member}
use Rattle.shortest.proofs.sets.PairSets.has_any.Goals as goal

pub returns : goal.returns
returns c =
    let any = c.any_state.ensures in (
      λ r. let (i, s, h, l, m) = any.0 r in bit_member c.args.self.now.masks i s (omega arith) l m,
      λ (p, z, hp, hz, m). any.1 (mask_index p (form_part z), target_part z, omega arith, omega arith, m),
    )
