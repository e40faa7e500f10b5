-- Codes, tags and words (SPEC 1.1 to 1.3).
use Rattle.std.specs.Prelude.{cond, List, map, ℕ, ◌+◌, ◌-◌, ◌<◌, ltb, length, get_or}

-- how many codes there are (SPEC 1.1), and how many tags (SPEC 1.2)
abbrev pub codes : ℕ
codes = 16

abbrev pub tag_bytes : ℕ
tag_bytes = 32

abbrev pub IsCode : ℕ → Type 0
IsCode c = c < codes

-- a "tag" (SPEC 10.1: opening and closing Σ-tags)
pub data Tag : Type 0 where
  opening closing : ℕ → Tag

abbrev pub code_of : Tag → ℕ
code_of (opening c) = c
code_of (closing c) = c

-- a tag's byte, and the tag of a byte: 16 more for a closing tag (SPEC 1.2)
abbrev pub byte_of : Tag → ℕ
byte_of (opening c) = c
byte_of (closing c) = codes + c

unfoldable pub tag_of : ℕ → Tag
tag_of b = cond (ltb b codes) (opening b) (closing (b - codes))

-- a "word" of tags
abbrev pub Word : Type 0
Word = List Tag

-- the word that a slice of bytes holds
abbrev pub word_of : List ℕ → Word
word_of s = map tag_of s

-- every byte is a tag
abbrev pub TagBytes : List ℕ → Type 0
TagBytes s = (k : ℕ) → k < length s → get_or s k 0 < tag_bytes
