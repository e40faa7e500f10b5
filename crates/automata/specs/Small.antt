-- A reply that is "small enough" to arrive (SPEC 5.10).
use Rattle.std.specs.Prelude.{List, ℕ}
use Rattle.words.specs.IsWord.{WithinDepth}

abbrev pub most_reply_depth : ℕ
most_reply_depth = 64

-- Refusal 18 is given to bytes that are not this (SPEC 7.18).
abbrev pub Small : List ℕ → Type 0
Small s = WithinDepth most_reply_depth s
