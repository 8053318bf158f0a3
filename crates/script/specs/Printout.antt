-- Document 01, "Script and printout": the printout of a script.
use Rattle.std.specs.Prelude.{ℕ, zero, suc, List, [], ◌∷◌, ◌++◌, Option, Some, None, Result, Ok, Err, option_and_then, option_map, replicate}
use Rattle.state.specs.Soundness.{Seen, sound}
use Rattle.portals.specs.Making.{new}
use Rattle.portals.specs.Calls.{Call}
use Rattle.text.specs.Text.{bytes_of, fields_of}
use Rattle.reader.specs.Contents.{head_of, line_at}
use Rattle.reader.specs.Calls.{line_call}
use Rattle.reader.specs.Judging.{verdict_of}
use Rattle.reader.specs.declared.judging.BadScript.{BadScript}
use Rattle.printer.specs.Said.{said}
use Rattle.script.specs.Run.{asked, Called, called}

-- call k of a script; none where it has no such line, or one of an unknown kind
abbrev pub call_at : List ℕ → ℕ → Option Call
call_at s k = option_map (asked s) (option_and_then (line_call s) (line_at s k))

-- a call, if there is one, before others
abbrev pub with_call : Option Call → List Call → List Call
with_call (Some c) cs = c ∷ cs
with_call None cs = cs

-- the calls of n lines, from line k on, and all calls: a good script has one in each line
unfoldable pub calls_from : List ℕ → ℕ → ℕ → List Call
calls_from s zero k = []
calls_from s (suc n) k = with_call (call_at s k) (calls_from s n (suc k))

abbrev pub calls_of : List ℕ → List Call
calls_of s = calls_from s (head_of s).count 0

-- "One line a call"
unfoldable pub line_of : ℕ → Called → List ℕ
line_of k c = said k c.answer ++ c.shown ++ bytes_of "\n"

-- the lines of calls, the first of which has number k, each on the state and the memory that the one before left
unfoldable pub lines_from : ℕ → List Call → Seen → List ℕ → List ℕ
lines_from k [] t memory = []
lines_from k (c ∷ cs) t memory =
    line_of k (called c t memory)
    ++ lines_from (suc k) cs (called c t memory).state (called c t memory).memory

-- all calls, on a new target; "its memory begins as 16,384 zero bytes, of which the head's memory field is used"
abbrev pub good_printout : List ℕ → List ℕ
good_printout s =
    lines_from 0 (calls_of s) (sound (new (record { size = (head_of s).memory })).state) (replicate (head_of s).memory 0)

-- "A bad file prints only `BAD_SCRIPT HEAD` or `BAD_SCRIPT n`, n the first bad call from 0."
abbrev pub printout_by : Result Unit BadScript → List ℕ → List ℕ
printout_by (Ok good) s = good_printout s
printout_by (Err BadScript.Head) s = bytes_of "BAD_SCRIPT HEAD\n"
printout_by (Err (BadScript.Call n)) s = bytes_of "BAD_SCRIPT" ++ fields_of (n ∷ []) ++ bytes_of "\n"

-- the whole printout of a script
unfoldable pub printout_of : List ℕ → List ℕ
printout_of s = printout_by (verdict_of s) s
