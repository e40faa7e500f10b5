-- `contents::has_form` meets its contract.
use Rattle.contents.specs.Contents.{has_form}
use Rattle.contents.proofs.has_form.Goals as goal

pub returns : goal.returns
unfolding has_form
returns c = c.fetchable.ensures
