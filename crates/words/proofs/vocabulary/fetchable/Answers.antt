-- `words::vocabulary::fetchable` meets its contract: a code's mark is its entry's, and the table has none above 15.
use Rattle.std.proofs.Common.{ap, arith}
use Rattle.words.specs.Vocabulary.{fetchable}
use Rattle.words.specs.Inner.Term.{view, term_of, term_of_entry}
use Rattle.words.proofs.Marks.{unmarked}
use Rattle.words.proofs.vocabulary.fetchable.Goals as goal

pub returns-then-code-lt-CODES : goal.returns-then-code-lt-CODES
unfolding view term_of term_of_entry fetchable
returns-then-code-lt-CODES c = ap (λ t. t.mark) c.lookup.ensures

pub returns-else-code-lt-CODES : goal.returns-else-code-lt-CODES
returns-else-code-lt-CODES c = grind (arith, unmarked)
