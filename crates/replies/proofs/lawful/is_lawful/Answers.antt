-- `replies::lawful::is_lawful` meets its contract: the transitions give the runs over the word, and the runs its lawfulness.
use native.Mathlib.Omega.{arith}
use Rattle.words.specs.Tag.{word_of}
use Rattle.automata.specs.ReplyBody.{form_of}
use Rattle.replies.proofs.LawfulAnswer.{few_states, lawful_by_relation}
use Rattle.replies.proofs.lawful.is_lawful.Goals as goal

pub returns : goal.returns
returns c =
    let body = c.args.body.bytes.now in
    let few = few_states body c.args.body.valid in
    let start = c.start.ensures in
    lawful_by_relation (form_of body) few (omega (arith, start.0, start.2)) (word_of c.args.word.now)
    c.requires.1.word.nested _ _
    (c.runs-m.ensures (form_of body) c.requires.0 few)
    c.accepting.ensures.0
    _
    (rw start.0 at c.meets.ensures)
