-- Document 01, "Script and printout": head and contents of a script.
use Rattle.std.specs.Prelude.{ℕ, zero, suc, ◌+◌, ◌*◌, cond, ◌&&◌, List, Option, Some, None, leb, length}
use Rattle.reader.specs.Numbers.{number_at, byte_at}
use Rattle.reader.specs.declared.contents.Head.{Head}
use Rattle.reader.specs.declared.contents.Line.{Line}

-- the head's length in bytes
abbrev pub HEAD : ℕ
HEAD = 8

-- "count u16 (at most 1,024)"
abbrev pub CALLS : ℕ
CALLS = 1024

-- "Head: count u16 .., zero u16, memory u32"
unfoldable pub head_of : List ℕ → Head
head_of s = record { count = number_at s 0 2; reserved = number_at s 2 2; memory = number_at s 4 4 }

-- where line i of the contents begins
abbrev pub line_start : ℕ → ℕ
line_start i = HEAD + 8 * i

-- "per call kind u8, zero u8, body length u16, body place u32"
abbrev pub line_read : List ℕ → ℕ → Line
line_read s at =
    record { kind = byte_at s at; reserved = byte_at s (at + 1); length = number_at s (at + 2) 2; place = number_at s (at + 4) 4 }

-- line i: none beyond the calls that a file can have, and beyond the file's end
unfoldable pub line_at : List ℕ → ℕ → Option Line
line_at s i = cond (leb (suc i) CALLS && leb (line_start (suc i)) (length s)) (Some (line_read s (line_start i))) None

-- the place behind place i: the next one; from CALLS on, where no file has a line, i itself
unfoldable pub next_place : ℕ → ℕ
next_place i = cond (leb (suc i) CALLS) (i + 1) i

-- the body length that a line says
abbrev pub body_length : Option Line → ℕ
body_length None = 0
body_length (Some l) = l.length

-- the sum of the body lengths of m lines, from line i on
unfoldable pub body_lengths : List ℕ → ℕ → ℕ → ℕ
body_lengths s zero i = 0
body_lengths s (suc m) i = body_length (line_at s i) + body_lengths s m (suc i)
