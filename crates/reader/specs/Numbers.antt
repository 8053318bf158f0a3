-- Document 01, "Script and printout": "Little-endian."
use Rattle.std.specs.Prelude.{ℕ, ◌+◌, ◌*◌, List, [], ◌∷◌, take, drop, get_or}

-- a number by its bytes, the least first
unfoldable pub little_endian : List ℕ → ℕ
little_endian [] = 0
little_endian (b ∷ bs) = b + 256 * little_endian bs

-- the number of n bytes from a place on
unfoldable pub number_at : List ℕ → ℕ → ℕ → ℕ
number_at s at n = little_endian (take n (drop at s))

-- a number of one byte
abbrev pub byte_at : List ℕ → ℕ → ℕ
byte_at s at = get_or s at 0
