-- `effects::numbers::put_numbers` meets its contract: the least lengths of the form are found, and the numbers written by them.
use Rattle.automata.proofs.TargetTables.{few_target_states}
use Rattle.replies.proofs.LawfulAnswer.{few_states}
use Rattle.effects.proofs.PutLaws.{numbers_put}
use Rattle.effects.proofs.numbers.put_numbers.Goals as goal

pub returns : goal.returns
returns c =
    let from = c.start.ensures in
    let d = c.find_form_lengths.ensures in
    numbers_put _ _ _ d.links_of (few_states _ c.args.reply.valid) (rw from.0 at from.2) _ d.least _ c.accepting.ensures.0
    (few_target_states _ c.args.target.valid) _ _ from.0 c.write_numbers.ensures
