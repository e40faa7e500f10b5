-- `words::vocabulary::lookup` meets its contract: the constant table is the vocabulary, entry by entry, which antt computes.
use mathlib.Core.Path.{sym}
use Rattle.words.specs.Vocabulary.{vocabulary, unknown}
use Rattle.words.specs.Inner.Term.{letters, view, term_of, term_of_entry}
use Rattle.words.proofs.Table.{mapped_at}
use Rattle.words.proofs.vocabulary.lookup.Goals as goal

pub returns : goal.returns
unfolding vocabulary letters view term_of term_of_entry
returns c = rw (mapped_at view) (sym (mapped_at term_of_entry vocabulary c.args.code unknown))
