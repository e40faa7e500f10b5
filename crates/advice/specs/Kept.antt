-- How many places a play has for kept states, and as many for begins (SPEC 3.9).
use Rattle.std.specs.Prelude.{ℕ}
use Rattle.job.specs.Record.{most_record_depth}

-- a play has a place for each element that a record may have open
abbrev pub play_slots : ℕ
play_slots = most_record_depth
