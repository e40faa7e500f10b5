-- The name of a code as bytes.
use Rattle.std.specs.Prelude.{List, ℕ, get_or}
use Rattle.words.specs.Vocabulary.{vocabulary, unknown}
use Rattle.words.specs.Inner.Term.{letters}

unfoldable pub name_of : ℕ → List ℕ
name_of c = letters (get_or vocabulary c unknown).name
