-- The vocabulary: sixteen names and marks (SPEC 1.7).
use Rattle.std.specs.Prelude.{Bool, true, false, List, [], ◌∷◌, ℕ, get_or}
use Prim.Native.String.{String}

pub record Entry : Type 0 where
  pub name : String
  pub mark : Bool

abbrev pub entry : String → Bool → Entry
entry n m = record { name = n; mark = m }

-- true marks the fetchable codes, 12 to 15 (SPEC 1.8)
unfoldable pub vocabulary : List Entry
vocabulary =
    entry "project" false ∷
    entry "object" false ∷
    entry "element" false ∷
    entry "sample" false ∷
    entry "series" false ∷
    entry "ring" false ∷
    entry "species" false ∷
    entry "sapwood" false ∷
    entry "match" false ∷
    entry "date" false ∷
    entry "place" false ∷
    entry "note" false ∷
    entry "getmatch" true ∷
    entry "getsap" true ∷
    entry "getspec" true ∷
    entry "getplace" true ∷
    []

-- no number above 15 is a code, and nothing is fetched there
abbrev pub unknown : Entry
unknown = entry "" false

unfoldable pub fetchable : ℕ → Bool
fetchable c = (get_or vocabulary c unknown).mark
