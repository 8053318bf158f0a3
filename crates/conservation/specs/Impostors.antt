-- Document 01: "Five impostors must not pass". Each is here in one or more lists: calls with the answers that such a target gives, and the
-- memory as each begins. The claim refuses every list, whatever the target and the memory are in the end.
use Rattle.std.specs.Prelude.{List, [], ◌∷◌, ◌++◌, ℕ, replicate}
use Rattle.matching.specs.Entry.{ANY}
use Rattle.matching.specs.declared.layout.Entry.{Entry}
use Rattle.state.specs.declared.layout.Target.{Target}
use Rattle.portals.specs.Answers.{Answer, REFUSED, LINKED, TAKEN, DONE, SEARCHED, PRIORITY, OVERFLOW, DROPPED, COUNTER, REGISTER}
use Rattle.claims.specs.BenchCases.{entry_of, request_of}
use Rattle.portals.specs.Calls.{Call, append, unlink, search, put, read_counter, read_register}
use Rattle.conservation.specs.Runs.{Line, line, line_elsewhere}
use Rattle.conservation.specs.Conserved.{All, Conserved}
use Rattle.conservation.specs.Example.{overflow_entry, taking_entry, zeros, stored}

-- a call with its answer, on the memory as it begins (zeros), and on the one in which `abc` is stored
abbrev pub first : Call → Answer → Line
first c answer = line zeros c answer

abbrev pub asks : Call → Answer → Line
asks c answer = line stored c answer

abbrev pub put_abc : Call
put_abc = put (request_of 5 0) (97 ∷ 98 ∷ 99 ∷ [])

-- as the taking entry, but without USE_ONCE
abbrev pub looking_entry : Entry
looking_entry = entry_of 0 1 8 4 0 ANY 5 0 8

abbrev pub stored_twice : List ℕ
stored_twice = 97 ∷ 98 ∷ 99 ∷ 97 ∷ 98 ∷ 99 ∷ replicate 10 0

-- the overflow entry is linked, and `abc` waits in it
abbrev pub begun : List Line
begun = first (append overflow_entry) (LINKED 1) ∷ first put_abc (OVERFLOW 3 0 1) ∷ []

-- "one dropping every request or refusing every append"
abbrev pub dropping : List Line
dropping = first (append overflow_entry) (LINKED 1) ∷ first put_abc (DROPPED 1) ∷ []

abbrev pub refusing : List Line
refusing = first (append overflow_entry) (REFUSED 4) ∷ []

-- "one giving a fixed answer"
abbrev pub fixed : List Line
fixed = first (append overflow_entry) (LINKED 1) ∷ first put_abc (PRIORITY 0 0 0) ∷ []

-- "one that leaves memory and lists untouched": no message waits; the bytes are not there as the message is taken
abbrev pub lists_untouched : List Line
lists_untouched = begun ++ (asks (search taking_entry) (SEARCHED 0) ∷ [])

abbrev pub memory_untouched : List Line
memory_untouched = begun ++ (first (append taking_entry) TAKEN ∷ [])

-- "one that works on the first call and copies that answer after": of a put, of an append, of a search though a second message has come
-- ("every later header"), and of an append that took the message
abbrev pub copying_put : List Line
copying_put = begun ++ (asks put_abc (OVERFLOW 3 0 1) ∷ [])

abbrev pub copying_append : List Line
copying_append = first (append overflow_entry) (LINKED 1) ∷ first (append overflow_entry) (LINKED 1) ∷ []

abbrev pub copying_search : List Line
copying_search =
    begun
    ++ (asks (search looking_entry) (SEARCHED 1) ∷ asks put_abc (OVERFLOW 3 3 1) ∷ line stored_twice (search looking_entry) (SEARCHED 1) ∷ [])

abbrev pub taking_twice : List Line
taking_twice = begun ++ (asks (append taking_entry) TAKEN ∷ asks (append taking_entry) TAKEN ∷ [])

-- "one inventing registers, lengths or search counts"
abbrev pub inventing_register : List Line
inventing_register = first (read_register 0) (REGISTER 1) ∷ []

abbrev pub inventing_length : List Line
inventing_length = first (append overflow_entry) (LINKED 1) ∷ first put_abc (OVERFLOW 4 0 1) ∷ []

abbrev pub inventing_count : List Line
inventing_count = begun ++ (asks (search taking_entry) (SEARCHED 2) ∷ [])

-- and more: an entry with a waiting message is unlinked, a good call is refused, a put is refused for a memory of the right length, a
-- counter is invented
abbrev pub unlinking_in_use : List Line
unlinking_in_use = begun ++ (asks (unlink 1) DONE ∷ [])

abbrev pub refusing_good : List Line
refusing_good = first (read_counter 0) (REFUSED 3) ∷ []

abbrev pub refusing_memory : List Line
refusing_memory = line_elsewhere zeros zeros (REFUSED 2) ∷ []

abbrev pub inventing_counter : List Line
inventing_counter = first (read_counter 0) (COUNTER 1 0) ∷ []

abbrev pub impostors : List (List Line)
impostors =
    dropping
    ∷ refusing
    ∷ fixed
    ∷ lists_untouched
    ∷ memory_untouched
    ∷ copying_put
    ∷ copying_append
    ∷ copying_search
    ∷ taking_twice
    ∷ inventing_register
    ∷ inventing_length
    ∷ inventing_count
    ∷ unlinking_in_use
    ∷ refusing_good
    ∷ refusing_memory
    ∷ inventing_counter
    ∷ []

-- no target and no memory agree with it
abbrev pub IsRefused : List Line → Type 0
IsRefused log = (t : Target) (m : List ℕ) → Conserved zeros log t m → ⊥

abbrev pub ImpostorsRefused : Type 0
ImpostorsRefused = All IsRefused impostors
