-- A part of a file, as each body is one (SPEC 6.5).
use Rattle.std.specs.Prelude.{List, ℕ, take, drop}

-- the len bytes from an offset on
abbrev pub part : List ℕ → ℕ → ℕ → List ℕ
part file at len = take len (drop at file)
