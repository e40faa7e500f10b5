-- What entry i is due to be for, by the bytes that say so.
use Rattle.std.specs.Prelude.{List, [], ◌∷◌, map, ℕ, get_or}
use Rattle.contents.specs.Contents.{role_bytes, roles}

-- no entry is for this
abbrev pub no_role : List ℕ
no_role = 0 ∷ 0 ∷ []

unfoldable pub due_role : ℕ → List ℕ
due_role i = get_or (map role_bytes roles) i no_role
