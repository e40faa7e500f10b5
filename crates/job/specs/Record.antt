-- How deep a record may be (SPEC 6.10).
use Rattle.std.specs.Prelude.{ℕ}

abbrev pub most_record_depth : ℕ
most_record_depth = 4
