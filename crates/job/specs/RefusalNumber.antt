-- The refusals as the code has them, and a result by the number of its refusal.
use Rattle.std.specs.Prelude.{◌≡◌, ℕ, Result, Ok, Err}
use Rattle.job.specs.declared.refusal.Refusal.{Refusal}
use Rattle.job.specs.declared.refusal.Refusal.TheVariants.{FileSize, Contents, Target, ReplyForm, Record, RecordDeep, NoReply}
use Rattle.job.specs.declared.refusal.Refusal.TheVariants.{Reply, Unlawful, History, Play, AtEnd, NoFetch, Buffer, TooLong, NoRoom}

-- a refusal's number (SPEC 7)
abbrev pub refusal_number : Refusal → ℕ
refusal_number FileSize = 11
refusal_number Contents = 12
refusal_number Target = 13
refusal_number ReplyForm = 14
refusal_number Record = 15
refusal_number RecordDeep = 16
refusal_number NoReply = 17
refusal_number Reply = 18
refusal_number Unlawful = 19
refusal_number History = 20
refusal_number Play = 21
refusal_number AtEnd = 22
refusal_number NoFetch = 23
refusal_number Buffer = 24
refusal_number TooLong = 25
refusal_number NoRoom = 26

-- a result by a number as `first_of` gives it: 0, which says that nothing is refused, where there is a value; else the refusal's number
abbrev pub RefusedBy : {A : Type 0} → ℕ → Result A Refusal → Type 0
RefusedBy n (Ok x) = n ≡ 0
RefusedBy n (Err e) = n ≡ refusal_number e
