-- What the pass over a file's contents gives, and what functions on a file with valid contents ask for.
use Rattle.std.specs.Prelude.{◌≡◌, List, ℕ, Option, None, Some}
use Rattle.contents.specs.Contents.{offsets_of, ValidContents}
use Rattle.contents.specs.declared.Offsets.{Offsets}

-- the offsets of the bodies, in a file whose contents are valid
pub record Located (file : List ℕ) (p : Offsets) : Type 0 where
  pub contents : ValidContents file
  pub at : p.at ≡ offsets_of file

-- what the contents of a file are found to be: where the bodies begin, or nothing where they are not valid
abbrev pub ContentsOf : List ℕ → Option Offsets → Type 0
ContentsOf file None = ¬ (ValidContents file)
ContentsOf file (Some p) = Located file p
