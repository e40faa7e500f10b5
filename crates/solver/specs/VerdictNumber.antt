-- The verdict's number: 1 for yes and 0 for no, or the refusal's (SPEC 8.7).
use Rattle.std.specs.Prelude.{Bool, cond, ℕ, Result, Ok, Err}
use Rattle.job.specs.RefusalNumber.{refusal_number}
use Rattle.job.specs.declared.refusal.Refusal.{Refusal}

abbrev pub verdict_number : Result Bool Refusal → ℕ
verdict_number (Ok won) = cond won 1 0
verdict_number (Err e) = refusal_number e
