-- A list of calls that were run: the first three of document 01's worked listing, with a write of the host in between. Its message waits in
-- an entry that manages its own offset, is undisturbed, and is handed out: neither the hand-out nor the bytes clause is empty.
use Rattle.std.specs.Prelude.{◌≡◌, true, List, [], ◌∷◌, ◌++◌, ℕ, replicate, set, Result}
use Rattle.matching.specs.declared.refusals.Refusal.{Refusal}
use Rattle.matching.specs.Entry.{ANY}
use Rattle.matching.specs.declared.layout.Entry.{Entry}
use Rattle.portals.specs.Answers.{LINKED, TAKEN, OVERFLOW}
use Rattle.claims.specs.BenchCases.{entry_of, entry_with, request_of}
use Rattle.portals.specs.Promises.{NewMet}
use Rattle.portals.specs.Calls.{append, put}
use Rattle.portals.specs.declared.answers.Done.{Done}
use Rattle.conservation.specs.Steps.{wrote}
use Rattle.conservation.specs.Ledger.{Message, message_at}
use Rattle.conservation.specs.Runs.{Line, line, Ran}
use Rattle.conservation.specs.Bytes.{ledger_of, Stay, at_arrival, Undisturbed, manages_local, BytesStand}
use Rattle.conservation.specs.Conserved.{Conserved}
use Rattle.conservation.specs.declared.example.Left.{Left}

-- "append portal 0, overflow, no counter, options 5, start 0, length 8, any ids, match 0, ignore all ones, user 7"
abbrev pub overflow_entry : Entry
overflow_entry = entry_with 1 5 0 8 0 ANY

-- "append priority, options 17, start 8, length 4, any ids, match 5, ignore 0, user 8"
abbrev pub taking_entry : Entry
taking_entry = entry_of 0 17 8 4 0 ANY 5 0 8

-- the memory as it begins, with `abc` in it, and after the host's write
abbrev pub zeros : List ℕ
zeros = replicate 16 0

abbrev pub stored : List ℕ
stored = 97 ∷ 98 ∷ 99 ∷ replicate 13 0

abbrev pub touched : List ℕ
touched = set stored 12 7

-- the steps of the list, with the answers of the listing
abbrev pub before : List Line
before = line zeros (append overflow_entry) (LINKED 1) ∷ []

-- "put portal 0, ack 1, nid 1, pid 2, uid 3, match 5, offset 0, `abc`, data 9"
abbrev pub arrival : Line
arrival = line zeros (put (request_of 5 0) (97 ∷ 98 ∷ 99 ∷ [])) (OVERFLOW 3 0 1)

abbrev pub between : List Line
between = record { step = wrote stored touched; memory = stored } ∷ []

abbrev pub taking : Line
taking = line touched (append taking_entry) TAKEN

abbrev pub log : List Line
log = before ++ (arrival ∷ between ++ (taking ∷ []))

-- the message that arrived
abbrev pub abc : Message
abc = message_at (ledger_of log).arrivals 0

pub record Example (r : Left) : Type 0 where
  pub new : Done (Result Unit Refusal)
  pub made : NewMet (record { size = 16 }) new
  -- the calls were run, with these answers
  pub ran : Ran new.target zeros log r.target r.memory
  pub conserved : Conserved zeros log r.target r.memory
  -- it was handed out
  pub handed : (ledger_of log).handed ≡ 0 ∷ []
  -- its entry manages its own offset, and nothing disturbed it between its arrival and that append; so its bytes stand
  pub stay : Stay log abc
  pub handed_by : stay.compared ≡ taking
  pub managed : manages_local abc ≡ true
  pub undisturbed : Undisturbed abc (at_arrival stay) stay.between
  pub stands : BytesStand touched abc
