-- What the scan finds a slice of bytes to be as a word of tags: its depth, or why it is none (SPEC 11.9).
use Rattle.std.proofs.Math.Logic.{ite}
use Rattle.std.specs.Prelude.{List, ℕ, length, Result, Ok, Err}
use Rattle.std.proofs.Math.Decide.{dec_lt}
use Rattle.words.specs.Tag.{Word, word_of}
use Rattle.words.specs.Forest.{depth}
use Rattle.words.specs.Decide.Words.{tag_bytes?, well_nested?}
pub use Rattle.words.specs.IsWord.{most_tags}
use Rattle.words.specs.declared.nesting.NoWord.{NoWord}
use Rattle.words.specs.declared.nesting.NoWord.TheVariants.{TooLong, NoTag, IllNested}

-- a word of tags: its depth, if some forest spells it
unfoldable pub nesting_of : Word → Result ℕ NoWord
nesting_of w = elim (well_nested? w) [ yes n ↦ Ok (depth n.forest) | no _ ↦ Err IllNested ]

-- any bytes: more than `most_tags`; else a byte above 31; else not well nested; else the depth
unfoldable pub judgement : List ℕ → Result ℕ NoWord
judgement s = ite (dec_lt most_tags (length s)) (Err TooLong) (ite (tag_bytes? s) (nesting_of (word_of s)) (Err NoTag))
