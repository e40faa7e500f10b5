-- The byte order of words (SPEC 13.3): by the first tag in which they differ, and a word comes before its continuations. An opening tag's
-- byte is below every closing tag's.
use Rattle.std.specs.Prelude.{◌≡◌, ◌⊎◌, [], ◌∷◌, ◌<◌}
use Rattle.words.specs.Tag.{byte_of, Word}

-- u comes before v
abbrev pub Precedes : Word → Word → Type 0
Precedes u [] = ⊥
Precedes [] (t ∷ v) = Unit {0}
Precedes (s ∷ u) (t ∷ v) = (byte_of s < byte_of t) ⊎ ((byte_of s ≡ byte_of t) × Precedes u v)
