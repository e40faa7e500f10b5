-- The vocabulary's entries as the code has them.
use Rattle.std.specs.Prelude.{List, [], ◌∷◌, Bool, ℕ, get_or}
use Prim.Native.Char.{code}
use Prim.Native.String.{String, [] as empty, ◌∷◌ as ◌then◌}
use Rattle.words.specs.Vocabulary.{Entry, vocabulary, unknown}
use Rattle.words.specs.declared.vocabulary.Term.{Term}

-- the bytes of a name
unfoldable pub letters : String → List ℕ
letters empty = []
letters (c then s) = code c ∷ letters s

-- the bytes of a term's name, and its mark
pub record TermView : Type 0 where
  pub name : List ℕ
  pub mark : Bool

unfoldable pub view : Term → TermView
view t = record { name = t.name.now; mark = t.fetchable }

unfoldable pub term_of_entry : Entry → TermView
term_of_entry e = record { name = letters e.name; mark = e.mark }

unfoldable pub term_of : ℕ → TermView
term_of c = term_of_entry (get_or vocabulary c unknown)
