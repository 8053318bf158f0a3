-- What the ledger says of the answer of each call: its refusals, and what it answers if it is not refused.
use Rattle.std.specs.Prelude.{◌≡◌, Bool, true, false, ◌||◌, ◌&&◌, not, cond, List, [], ◌∷◌, ℕ, ◌+◌, ◌%◌, ◌^◌, eqb, ltb, length}
use Rattle.std.specs.Prelude.{Option, None, Some, Result, Ok, Err}
use Rattle.matching.specs.Refusals.{first_bad}
use Rattle.matching.specs.Entry.{bad_entry_argument}
use Rattle.matching.specs.Request.{bad_request_argument, arrival_of, accepted, offset_used, verdict_on, ack_asked, ack_given}
use Rattle.matching.specs.EarlyMessages.{takes_headers}
use Rattle.matching.specs.declared.layout.Entry.{Entry}
use Rattle.matching.specs.declared.layout.Request.{Request}
use Rattle.matching.specs.declared.refusals.Refusal.TheVariants as Refusal
use Rattle.matching.specs.declared.refusals.BadArgument.{BadArgument}
use Rattle.matching.specs.declared.request.Arrival.{Arrival}
use Rattle.matching.specs.declared.request.Kind.{Kind}
use Rattle.matching.specs.declared.request.Violation.{Violation}
use Rattle.state.specs.Lists.{any, is_empty}
use Rattle.state.specs.Sizes.{SLOTS, HEADERS, LAST_HANDLE}
use Rattle.state.specs.Counters.{counter_at}
use Rattle.state.specs.View.{has_handle}
use Rattle.state.specs.Soundness.{names}
use Rattle.state.specs.declared.layout.HeldEntry.{HeldEntry}
use Rattle.state.specs.declared.layout.Header.{Header}
use Rattle.early.specs.Walk.{uses_once}
use Rattle.portals.specs.Refusals.{Condition, good_arguments, unless_refused}
use Rattle.portals.specs.Answers.{Answer, LINKED, TAKEN, DONE, SEARCHED, PRIORITY, OVERFLOW, DROPPED, PERM, OP, COUNTER, REGISTER, READY, NOT_READY, refused, reached_answer}
use Rattle.portals.specs.EventRead.{oldest_of}
use Rattle.portals.specs.CounterCalls.{counter_tests, is_ready, bad_poll_argument, reached_from, bad_register_argument}
use Rattle.portals.specs.Calls.{Call, append, unlink, search, put, get, read_event, set_counter, increment, read_counter, read_register, ready, poll}
use Rattle.conservation.specs.Steps.{Step, called, elsewhere, wrote, count, events_read, says_linked, says_dropped, says_perm, says_op}
use Rattle.conservation.specs.Ledger.{Ledger, chosen, search_walk, append_walk, still_queued, kept_without, headers_at}

-- ## Refusals

-- "a slot is taken while its entry is linked, or retired with messages waiting": the linked entries, and those that are linked no more in
-- which messages wait, each counted at its last message
abbrev pub slots_taken : List HeldEntry → List Header → ℕ
slots_taken linked [] = length linked
slots_taken linked (h ∷ others) =
    cond (kept_without linked h others) 0 1 + slots_taken linked others

-- NO_SPACE: "append: 64 slots taken at entry, or no handle left"
abbrev pub space_for : Ledger → Bool
space_for b = ltb (slots_taken b.linked (headers_at b b.waiting)) SLOTS && ltb (count says_linked b.heard) LAST_HANDLE

-- "any handle not linked is ARG_INVALID"
abbrev pub bad_handle : Ledger → ℕ → Result Unit BadArgument
bad_handle b handle = first_bad (record { passed = any (has_handle handle) b.linked; argument = BadArgument.Handle } ∷ [])

-- what a call tests as it begins, in document 01's order, with a memory of this size. Put and get are lent this memory (no BAD_MEMORY),
-- and no state of the list is unsound (no BAD_STATE)
abbrev pub tests_of : ℕ → Ledger → Call → List Condition
tests_of size b (append e) = good_arguments (bad_entry_argument e size) ∷ record { passed = space_for b; refusal = Refusal.NoSpace } ∷ []
tests_of size b (unlink handle) =
    good_arguments (bad_handle b handle)
    ∷ record { passed = not (any (names handle) (headers_at b b.waiting)); refusal = Refusal.InUse }
    ∷ []
tests_of size b (search e) = good_arguments (bad_entry_argument e size) ∷ []
tests_of size b (put q payload) = good_arguments (bad_request_argument q (length payload)) ∷ []
tests_of size b (get q reply) = good_arguments (bad_request_argument q (length reply)) ∷ []
tests_of size b read_event = []
tests_of size b (set_counter x) = counter_tests x.counter
tests_of size b (increment x) = counter_tests x.counter
tests_of size b (read_counter k) = counter_tests k
tests_of size b (read_register k) = good_arguments (bad_register_argument k) ∷ []
tests_of size b (ready x) = counter_tests x.counter
tests_of size b (poll ks tests) = good_arguments (bad_poll_argument ks tests) ∷ []

-- ## Append

-- "USE_ONCE with a fit": TAKEN. Else LINKED: "Handles count up from 1 .., never twice.": the handle is the number of LINKED answers,
-- this one included
abbrev pub expected_of_append : Ledger → Entry → Answer
expected_of_append b e =
    cond (uses_once e && not (is_empty (append_walk b e).found)) TAKEN (LINKED (count says_linked b.heard + 1))

-- ## Put and get

-- by rule 4's verdict on the chosen entry, and room for a header
abbrev pub answer_of : HeldEntry → Arrival → ℕ → Result Unit Violation → Bool → Answer
answer_of x a ack (Err Violation.Permission) room = PERM (ack_asked a.kind ack)
answer_of x a ack (Err Violation.Operation) room = OP (ack_asked a.kind ack)
answer_of x a ack (Ok granted) false = DROPPED (ack_asked a.kind ack)
answer_of x a ack (Ok granted) true =
    cond (eqb x.entry.list 0)
    (PRIORITY (accepted x.entry x.local a) (offset_used x.entry x.local a) (ack_given x.entry.options a.kind ack))
    (OVERFLOW (accepted x.entry x.local a) (offset_used x.entry x.local a) (ack_given x.entry.options a.kind ack))

-- not "in overflow without UNEXPECTED_HDR_DISABLE with 32 waiting"
abbrev pub room_for : Ledger → HeldEntry → Bool
room_for b x = not (takes_headers x.entry) || ltb (length b.waiting) HEADERS

abbrev pub answer_on : Ledger → Arrival → ℕ → Option HeldEntry → Answer
answer_on b a ack None = DROPPED (ack_asked a.kind ack)
answer_on b a ack (Some x) = answer_of x a ack (verdict_on x.entry a) (room_for b x)

abbrev pub expected_of_request : Ledger → Request → Arrival → Answer
expected_of_request b q a = answer_on b a q.ack (chosen b.linked q.portal a)

-- ## The registers

-- the answers that a register counts: "0 drop, 1 permission, 2 operation"
abbrev pub counted_in : ℕ → Answer → Bool
counted_in k = cond (eqb k 0) says_dropped (cond (eqb k 1) says_perm says_op)

-- "modulo 2^64, the number of answers of its kind"
abbrev pub register_of : List Answer → ℕ → ℕ
register_of heard k = count (counted_in k) heard % 2 ^ 64

-- ## All calls

-- what a call answers if it is not refused
abbrev pub expected : Ledger → Call → Answer
expected b (append e) = expected_of_append b e
expected b (unlink handle) = DONE
expected b (search e) = SEARCHED (length (search_walk b e).found)
expected b (put q payload) = expected_of_request b q (arrival_of q Kind.Put (length payload))
expected b (get q reply) = expected_of_request b q (arrival_of q Kind.Get (length reply))
expected b read_event = oldest_of (still_queued (length (events_read b.heard)) b.events)
expected b (set_counter x) = DONE
expected b (increment x) = DONE
expected b (read_counter k) = COUNTER (counter_at b.counters k).success (counter_at b.counters k).failure
expected b (read_register k) = REGISTER (register_of b.heard k)
expected b (ready x) = cond (is_ready (counter_at b.counters x.counter) x.test) READY NOT_READY
expected b (poll ks tests) = reached_answer (reached_from b.counters 0 ks tests)

-- the answer of a step is the ledger's. BAD_MEMORY: "put or get: memory length differs from the state's"; the step `elsewhere` is only of a
-- memory of another length
abbrev pub AnswerRight : ℕ → Ledger → Step → Type 0
AnswerRight size b (called c answer) = answer ≡ unless_refused refused (tests_of size b c) (expected b c)
AnswerRight size b (elsewhere n answer) = (eqb n size ≡ false) × (answer ≡ refused Refusal.BadMemory)
AnswerRight size b (wrote m m') = Unit
