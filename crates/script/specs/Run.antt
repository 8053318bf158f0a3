-- What a call of a script does to a target and to its memory, and what its line shows.
use Rattle.std.specs.Prelude.{ℕ, ◌-◌, List, [], take, drop, replicate}
use Rattle.matching.specs.declared.refusals.Refusal.TheVariants as Refusal
use Rattle.state.specs.View.{View}
use Rattle.state.specs.Soundness.{Seen, sound, unsound}
use Rattle.portals.specs.Answers.{Answer, refused}
use Rattle.portals.specs.Request as request
use Rattle.portals.specs.Calls.{Call, append, unlink, search, put, get, read_event, set_counter, increment, read_counter, read_register, ready, poll, state_after, answer_to}
use Rattle.reader.specs.declared.calls.Call as script
use Rattle.reader.specs.declared.calls.Call.TheVariants as Script
use Rattle.printer.specs.Said.{shown_of}

-- the bytes of a file from one place up to another
abbrev pub part_of : List ℕ → ℕ → ℕ → List ℕ
part_of s from end = take (end - from) (drop from s)

-- what a call of a script asks of the target. A put's payload is a part of the file; a get's reply buffer is as long as it asks, and
-- zero before.
abbrev pub asked : List ℕ → script.Call → Call
asked s (Script.Append e) = append e
asked s (Script.Unlink handle) = unlink handle
asked s (Script.Put q from end) = put q (part_of s from end)
asked s (Script.Get q length) = get q (replicate length 0)
asked s Script.ReadEvent = read_event
asked s (Script.ReadCounter n) = read_counter n
asked s (Script.SetCounter x) = set_counter x
asked s (Script.Increment x) = increment x
asked s (Script.Search e) = search e
asked s (Script.ReadRegister n) = read_register n

-- the memory that a call leaves: only a put is lent it to change
abbrev pub memory_after : View → List ℕ → Call → List ℕ
memory_after v memory (put q payload) = (request.put v memory q payload).buffer
memory_after v memory (get q reply) = memory
memory_after v memory (append e) = memory
memory_after v memory (unlink handle) = memory
memory_after v memory (search e) = memory
memory_after v memory read_event = memory
memory_after v memory (set_counter x) = memory
memory_after v memory (increment x) = memory
memory_after v memory (read_counter n) = memory
memory_after v memory (read_register n) = memory
memory_after v memory (ready x) = memory
memory_after v memory (poll ks tests) = memory

-- what its line shows behind the answer: "(get: and accepted bytes in lower hex, `-` if none)"
abbrev pub shown_by : View → List ℕ → Call → List ℕ
shown_by v memory (get q reply) = shown_of (answer_to v memory (get q reply)) (request.get v memory q reply).buffer
shown_by v memory (put q payload) = []
shown_by v memory (append e) = []
shown_by v memory (unlink handle) = []
shown_by v memory (search e) = []
shown_by v memory read_event = []
shown_by v memory (set_counter x) = []
shown_by v memory (increment x) = []
shown_by v memory (read_counter n) = []
shown_by v memory (read_register n) = []
shown_by v memory (ready x) = []
shown_by v memory (poll ks tests) = []

-- a call that was run: its answer, what its line shows behind that, and the state and the memory that it leaves
pub record Called : Type 0 where
  pub answer : Answer
  pub shown : List ℕ
  pub state : Seen
  pub memory : List ℕ

-- A call on a state as it is seen, and a memory. A script begins with a new target, so it never meets an unsound state; but the
-- functions that run a call take every state.
abbrev pub called : Call → Seen → List ℕ → Called
called c (sound v) memory =
    record {
      answer = answer_to v memory c;
      shown = shown_by v memory c;
      state = sound (state_after v memory c);
      memory = memory_after v memory c;
    }
called c (unsound t) memory =
    record { answer = refused Refusal.BadState; shown = []; state = unsound t; memory = memory }
