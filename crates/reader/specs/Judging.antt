-- Document 01, "Script and printout": which files are bad, and where.
use Rattle.std.specs.Prelude.{ℕ, zero, suc, ◌+◌, ◌≤◌, Bool, false, cond, ◌&&◌, List, Option, Some, None, Result, Ok, Err, leb, eqb, length}
use Rattle.reader.specs.Numbers.{number_at, byte_at}
use Rattle.reader.specs.Contents.{HEAD, CALLS, head_of, line_start, line_at, body_length, body_lengths}
use Rattle.reader.specs.Calls.{kind_of_call, request_at, length_at}
use Rattle.reader.specs.declared.contents.Head.{Head}
use Rattle.reader.specs.declared.contents.Line.{Line}
use Rattle.reader.specs.declared.calls.Call.{Call}
use Rattle.reader.specs.declared.calls.CallKind.{CallKind}
use Rattle.reader.specs.declared.calls.UnknownKind.{UnknownKind}
use Rattle.reader.specs.declared.judging.BadScript.{BadScript}

-- "to the end of a file of at most 32,768 bytes"
abbrev pub FILE : ℕ
FILE = 32768

-- "memory u32 (at most 16,384 here)"; "A get's length is at most 16,384."
abbrev pub SCRIPT_MEMORY : ℕ
SCRIPT_MEMORY = 16384

-- ## The head

-- not: "a head field out of bounds"
abbrev pub good_fields : Head → Bool
good_fields h = leb h.count CALLS && eqb h.reserved 0 && leb h.memory SCRIPT_MEMORY

-- head and contents, for so many calls; there the bodies begin
abbrev pub bodies_start : ℕ → ℕ
bodies_start count = line_start count

-- not: "file too long or shorter than head and contents, .. or longer than head, contents and all body lengths"
abbrev pub good_size : List ℕ → ℕ → Bool
good_size s count =
    leb (length s) FILE
    && leb (bodies_start count) (length s)
    && leb (length s) (bodies_start count + body_lengths s count 0)

unfoldable pub good_head : List ℕ → Bool
good_head s = leb HEAD (length s) && (good_fields (head_of s) && good_size s (head_of s).count)

-- ## A call

-- the zeros of a request's body
abbrev pub request_zeros : List ℕ → ℕ → Bool
request_zeros s at = eqb (number_at s (at + 2) 2) 0 && eqb (number_at s (at + 36) 4) 0

-- an append's or a search's body
abbrev pub good_entry : List ℕ → Line → Bool
good_entry s l = eqb l.length 56 && eqb (byte_at s (l.place + 3)) 0

-- a put's: as much longer than 48 bytes as its length field says. That it has 48 follows; it is tested first, before they are read.
abbrev pub good_put : List ℕ → Line → Bool
good_put s l = leb 48 l.length && (request_zeros s l.place && eqb l.length (48 + length_at s l.place))

-- a get's: "ack and header data 0 in get"
abbrev pub good_get : List ℕ → Line → Bool
good_get s l =
    eqb l.length 48
    && (request_zeros s l.place
    && eqb (request_at s l.place).ack 0
    && eqb (request_at s l.place).hdrdata 0
    && leb (length_at s l.place) SCRIPT_MEMORY)

-- not: "a zero that is not, a body of wrong length .., or a get too long", by the kind of call
abbrev pub good_body : CallKind → List ℕ → Line → Bool
good_body CallKind.Append s l = good_entry s l
good_body CallKind.Unlink s l = eqb l.length 4
good_body CallKind.Put s l = good_put s l
good_body CallKind.Get s l = good_get s l
good_body CallKind.ReadEvent s l = eqb l.length 0
good_body CallKind.ReadCounter s l = eqb l.length 1
good_body CallKind.SetCounter s l = eqb l.length 17
good_body CallKind.Increment s l = eqb l.length 17
good_body CallKind.Search s l = good_entry s l
good_body CallKind.ReadRegister s l = eqb l.length 1

-- a line that is good wherever its body should be; not: "an unknown kind", "past the end"
abbrev pub formed_as : Result CallKind UnknownKind → List ℕ → Line → Bool
formed_as (Err unknown) s l = false
formed_as (Ok kind) s l = eqb l.reserved 0 && (leb (l.place + l.length) (length s) && good_body kind s l)

unfoldable pub well_formed : List ℕ → Line → Bool
well_formed s l = formed_as (kind_of_call l.kind) s l

-- what a call of a well formed line says: a put's payload lies in the file; a get asks for no more than the largest memory
abbrev pub CallFits : List ℕ → Call → Type 0
CallFits s (Call.Put q from end) = (from ≤ end) × (end ≤ length s)
CallFits s (Call.Get q length) = length ≤ SCRIPT_MEMORY
CallFits s (Call.Append e) = Unit {0}
CallFits s (Call.Unlink handle) = Unit {0}
CallFits s Call.ReadEvent = Unit {0}
CallFits s (Call.ReadCounter n) = Unit {0}
CallFits s (Call.SetCounter x) = Unit {0}
CallFits s (Call.Increment x) = Unit {0}
CallFits s (Call.Search e) = Unit {0}
CallFits s (Call.ReadRegister n) = Unit {0}

-- "Then the bodies, in order, no gaps": the body of this line is to begin at a place
abbrev pub good_line : List ℕ → ℕ → Line → Bool
good_line s at l = well_formed s l && eqb l.place at

-- a line that there is, and that is good
abbrev pub good_call : List ℕ → ℕ → Option Line → Bool
good_call s at None = false
good_call s at (Some l) = good_line s at l

-- ## The file

-- of m lines from line i on, whose bodies are to begin at a place: "n the first bad call from 0"
unfoldable pub first_bad_call : List ℕ → ℕ → ℕ → ℕ → Result Unit BadScript
first_bad_call s zero i at = Ok tt
first_bad_call s (suc m) i at =
    cond (good_call s at (line_at s i)) (first_bad_call s m (suc i) (at + body_length (line_at s i))) (Err (BadScript.Call i))

-- "HEAD, tested first"
unfoldable pub verdict_of : List ℕ → Result Unit BadScript
verdict_of s =
    cond (good_head s) (first_bad_call s (head_of s).count 0 (bodies_start (head_of s).count)) (Err BadScript.Head)
