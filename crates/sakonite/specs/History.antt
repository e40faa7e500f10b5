-- A "history" (SPEC 8.10): moves from the record's start, as bytes.
use Rattle.std.specs.Prelude.{◌≡◌, List, [], ◌∷◌, ◌++◌, ℕ, length}
use Rattle.words.specs.Numbers.{two_bytes}
use Rattle.play.specs.Moves.{MoveCall, to_read, to_fetch}

abbrev pub read_byte : ℕ
read_byte = 0x20

abbrev pub fetch_byte : ℕ
fetch_byte = 0x21

-- how moves are written, a reply's length in 2 bytes
abbrev pub written : List MoveCall → List ℕ
written [] = []
written (to_read ∷ cs) = read_byte ∷ written cs
written (to_fetch u ∷ cs) = fetch_byte ∷ (two_bytes (length u) ++ (u ++ written cs))

-- Refusal 20 is given to bytes that are not this (SPEC 7.20).
abbrev pub IsHistory : List ℕ → Type 0
IsHistory h = (cs : List MoveCall) × (written cs ≡ h)
