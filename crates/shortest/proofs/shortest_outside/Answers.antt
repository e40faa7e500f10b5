-- `shortest::shortest_outside` meets its contract: by the least length out of the set there is no reply, or only longer ones, or the first
-- of the shortest is written where it has room.
use Rattle.std.proofs.Common.{length, refl, sym, ◌∙◌, arith}
use mathlib.Core.Logic.{if_pos, if_neg}
use native.Mathlib.Decide.{dec_le}
use Rattle.automata.specs.TargetBody.{target_of}
use Rattle.automata.specs.ReplyBody.{form_of}
use Rattle.automata.proofs.TargetTables.{state_small}
use Rattle.shortest.specs.Inner.First.{FoundInto}
use Rattle.shortest.proofs.FirstLaws.{Answers, answers}
use Rattle.shortest.proofs.shortest_outside.Goals as goal
use Rattle.shortest.proofs.shortest_outside.Goals.{After-least}

-- the answers by the least length
known : (c : After-least) → Answers (target_of c.args.target.bytes.now) (form_of c.args.reply.bytes.now) c.args.q c.args.set c.least.result
known c =
    answers _ _ _ _ c.args.target.valid c.args.reply.valid c.find_form_lengths.ensures c.args.q c.args.set c.least.result c.requires
    c.least.ensures

pub invariant_of-way : goal.invariant_of-way
invariant_of-way c = record { small = state_small _ c.args.target.valid _ c.requires }

pub write_first-requires-clause-least : goal.write_first-requires-clause-least
write_first-requires-clause-least c =
    let most = (known (goal.at.write_first-requires-clause-least c).After-least).counted (omega arith) in
    (c.requires, c.least.ensures, omega arith, omega arith)

pub returns-in-65535 : goal.returns-in-65535
unfolding FoundInto
returns-in-65535 c = ((known (goal.at.returns-in-65535 c).After-least).none (omega arith), refl)

pub returns-in-2049 : goal.returns-in-2049
unfolding FoundInto
returns-in-2049 c =
    let (u, first, more) = (known (goal.at.returns-in-2049 c).After-least).longer (omega arith) (omega arith) in
    (u, first, more, refl)

pub returns-then-tags-buffer : goal.returns-then-tags-buffer
unfolding FoundInto
returns-then-tags-buffer c =
    let most = (known (goal.at.returns-then-tags-buffer c).After-least).counted (omega arith) in
    let w = c.write_first.ensures in
    (w.reply, w.first, omega arith, omega arith, w.bytes ∙ sym (if_pos (dec_le (length w.reply) _) (omega arith) _ _))

pub returns-else-tags-buffer : goal.returns-else-tags-buffer
unfolding FoundInto
returns-else-tags-buffer c =
    let k = known (goal.at.returns-else-tags-buffer c).After-least in
    let most = k.counted (omega arith) in
    let (u, first, e) = k.shorter (omega arith) in
    (u, first, omega arith, omega arith, sym (if_neg (dec_le (length u) _) (λ h. omega arith) _ _))
