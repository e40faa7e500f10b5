-- Numbers in several bytes, the least significant one first (SPEC 6.1).
use Rattle.std.specs.Prelude.{List, [], ◌∷◌, ℕ, ◌+◌, ◌*◌, ◌/◌, ◌%◌, ◌<◌, length, get_or}

abbrev pub byte_at : List ℕ → ℕ → ℕ
byte_at b i = get_or b i 0

-- every number is a byte
abbrev pub AreBytes : List ℕ → Type 0
AreBytes b = (i : ℕ) → i < length b → byte_at b i < 256

-- a number in 2 bytes, and in 4
abbrev pub two : List ℕ → ℕ → ℕ
two b i = byte_at b i + 256 * byte_at b (i + 1)

abbrev pub four : List ℕ → ℕ → ℕ
four b i = two b i + 65536 * two b (i + 2)

-- a number below 65536, as 2 bytes
abbrev pub two_bytes : ℕ → List ℕ
two_bytes n = n % 256 ∷ n / 256 ∷ []
