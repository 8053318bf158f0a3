-- Text as bytes: words, numbers in decimal, bytes in hex.
use Rattle.std.specs.Prelude.{ℕ, zero, suc, ◌+◌, ◌/◌, ◌%◌, cond, List, [], ◌∷◌, ◌++◌, ltb}
use Prim.Native.Char.{code}
use Prim.Native.String.{String, [] as ε, ◌∷◌ as ◌◂◌}

-- a text in quotes, byte by byte; all texts here are ASCII
abbrev pub bytes_of : String → List ℕ
bytes_of ε = []
bytes_of (c ◂ s) = code c ∷ bytes_of s

-- a number in decimal, with no zeros in front; it has to be below 10 ^ k
unfoldable pub digits_of : ℕ → ℕ → List ℕ
digits_of zero n = []
digits_of (suc k) n = cond (ltb n 10) ((48 + n) ∷ []) (digits_of k (n / 10) ++ ((48 + n % 10) ∷ []))

-- a number of 64 bits has at most 20 digits
unfoldable pub decimal_of : ℕ → List ℕ
decimal_of n = digits_of 20 n

-- a number behind a space
unfoldable pub field_of : ℕ → List ℕ
field_of n = bytes_of " " ++ decimal_of n

-- the digit of a number below 16: 48 is '0', 97 is 'a'
abbrev pub hex_digit : ℕ → ℕ
hex_digit n = cond (ltb n 10) (48 + n) (87 + n)

-- "in lower hex"
abbrev pub hex_byte : ℕ → List ℕ
hex_byte b = hex_digit (b / 16) ∷ hex_digit (b % 16) ∷ []

-- the texts of all elements of a list, one after another
unfoldable pub each_of : (ℕ → List ℕ) → List ℕ → List ℕ
each_of text [] = []
each_of text (x ∷ xs) = text x ++ each_of text xs

abbrev pub fields_of : List ℕ → List ℕ
fields_of ns = each_of field_of ns

abbrev pub hex_of : List ℕ → List ℕ
hex_of bs = each_of hex_byte bs
