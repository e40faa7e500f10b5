-- `contents::bodies::Bodies::record` meets its contract: the record's entry is the last.
use Rattle.words.specs.Vocabulary.{vocabulary, fetchable}
use Rattle.contents.specs.Contents.{has_form, form_codes, record_entry}
use Rattle.contents.proofs.bodies.Bodies.record.Goals as goal

pub returns : goal.returns
unfolding record_entry form_codes has_form fetchable vocabulary
returns c = c.body.ensures
