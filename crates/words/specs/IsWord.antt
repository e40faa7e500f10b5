-- Well nested, within a limit of tags and depth: the conditions behind refusals 15, 16 and 18 (SPEC 7.15, 7.16, 7.18).
use Rattle.std.specs.Prelude.{List, ℕ, ◌<◌, ◌≤◌, length}
use Rattle.words.specs.Tag.{word_of, TagBytes}
use Rattle.words.specs.Forest.{WellNested, depth}

-- the longest record (SPEC 6.10), and the longest reply that may arrive (SPEC 5.10)
abbrev pub most_tags : ℕ
most_tags = 4096

pub record IsWord (s : List ℕ) : Type 0 where
  pub short : length s ≤ most_tags
  pub bytes : TagBytes s
  pub nested : WellNested (word_of s)

-- such a word, with no more than m elements open together
pub record WithinDepth (m : ℕ) (s : List ℕ) : Type 0 where
  pub word : IsWord s
  pub shallow : depth word.nested.forest ≤ m

-- a well-nested word, of whatever length, with more than m elements open together
pub record Deeper (m : ℕ) (s : List ℕ) : Type 0 where
  pub nested : WellNested (word_of s)
  pub deep : m < depth nested.forest
