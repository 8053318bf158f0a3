-- The memory beside the target, and demand 3's last sentence: "A put handed out from an overflow entry that manages its own offset still has its arrived bytes in memory,
-- up to the accepted length, if between its arrival and that call no other linked entry's region shared a byte with that entry's region,
-- and no host write changed a byte of it."
use Rattle.std.specs.Prelude.{◌≡◌, Bool, true, ◌||◌, not, List, [], ◌∷◌, ◌++◌, ℕ, ◌+◌, min, max, ltb, length, take, drop}
use Rattle.matching.specs.Bits.{is_set}
use Rattle.matching.specs.Entry.{MANAGE_LOCAL}
use Rattle.matching.specs.Request.{accepted, place}
use Rattle.matching.specs.declared.layout.Entry.{Entry}
use Rattle.state.specs.Lists.{every, overwritten}
use Rattle.state.specs.View.{has_handle}
use Rattle.conservation.specs.Steps.{Step, called, elsewhere, wrote}
use Rattle.conservation.specs.Ledger.{Message, Ledger, Effect, nothing, delivery, link, taken, remove, look, delete, change, call_effect, empty, hear}
use Rattle.conservation.specs.Runs.{Line}

abbrev pub ledger_from : Ledger → List Line → Ledger
ledger_from b [] = b
ledger_from b (l ∷ ls) = ledger_from (hear b l.step) ls

-- the ledger after a list of steps
abbrev pub ledger_of : List Line → Ledger
ledger_of log = ledger_from empty log

-- ## The memory

-- after a step: rule 5's bytes of a put, where it was delivered; a get has no payload
abbrev pub memory_by : List ℕ → Effect → List ℕ
memory_by m nothing = m
memory_by m (delivery portal a payload x) =
    overwritten m (place x.entry x.local a) (take (accepted x.entry x.local a) payload)
memory_by m (link e handle) = m
memory_by m (taken e) = m
memory_by m (remove handle) = m
memory_by m (look e) = m
memory_by m (delete e) = m
memory_by m (change k f) = m

abbrev pub memory_after : Ledger → List ℕ → Step → List ℕ
memory_after b m (called c answer) = memory_by m (call_effect b.linked c answer)
memory_after b m (elsewhere n answer) = m
memory_after b m (wrote before after) = after

-- a host write is of the memory that stands there, and keeps its length
abbrev pub HostWrites : List ℕ → Step → Type 0
HostWrites m (called c answer) = Unit
HostWrites m (elsewhere n answer) = Unit
HostWrites m (wrote before after) = (before ≡ m) × (length after ≡ length m)

-- "a call that is lent memory .. is lent this one, any other call leaves it, and each host write between calls is a step of the list":
-- every step begins with the memory that the one before left, the first with m, and the last leaves m'
abbrev pub Memories : Ledger → List ℕ → List Line → List ℕ → Type 0
Memories b m [] m' = m' ≡ m
Memories b m (l ∷ ls) m' = (l.memory ≡ m) × HostWrites m l.step × Memories (hear b l.step) (memory_after b m l.step) ls m'

-- ## The bytes of a message

-- n bytes of a memory from a place on
abbrev pub bytes_at : List ℕ → ℕ → ℕ → List ℕ
bytes_at m place n = take n (drop place m)

-- two regions share a byte: the later start is before the earlier end; so an empty region shares none
abbrev pub share_byte : Entry → Entry → Bool
share_byte e f = ltb (max e.start f.start) (min (e.start + e.length) (f.start + f.length))

-- "no other linked entry's region shared a byte with that entry's region"
abbrev pub apart : Message → Ledger → Bool
apart x b = every (λ y. has_handle x.entry.handle y || not (share_byte y.entry x.entry.entry)) b.linked

-- "no host write changed a byte of it": of the message's bytes, which lie in that entry's region, so that less is asked of the host than
-- if the whole region had to stay (decision 60)
abbrev pub BytesKept : Message → Step → Type 0
BytesKept x (called c answer) = Unit
BytesKept x (elsewhere n answer) = Unit
BytesKept x (wrote m m') = bytes_at m' x.header.place (length x.arrived) ≡ bytes_at m x.header.place (length x.arrived)

-- both, over these steps from the ledger b on: apart as the first step begins and after each, and no host write among them changes its
-- bytes. Entries that were linked before the first step count, and so do those linked and unlinked in between
abbrev pub Undisturbed : Message → Ledger → List Line → Type 0
Undisturbed x b [] = apart x b ≡ true
Undisturbed x b (l ∷ ls) = (apart x b ≡ true) × BytesKept x l.step × Undisturbed x (hear b l.step) ls

-- A message's stay in a list of steps: earlier | arrival | between | compared | later. It arrives with the step `arrival`, and its bytes are
-- compared as the step `compared` begins. The demand's is the call that hands the message out; here it is any later step
-- (decision 62)
pub record Stay (log : List Line) (x : Message) : Type 0 where
  pub earlier : List Line
  pub arrival : Line
  pub between : List Line
  pub compared : Line
  pub later : List Line
  pub split : log ≡ earlier ++ (arrival ∷ between ++ (compared ∷ later))
  -- the ledger's arrivals grow by it
  pub arrives : (ledger_of (earlier ++ (arrival ∷ []))).arrivals ≡ (ledger_of earlier).arrivals ++ (x ∷ [])

-- the ledger just after the arrival
abbrev pub at_arrival : {log : List Line} {x : Message} → Stay log x → Ledger
at_arrival s = ledger_of (s.earlier ++ (s.arrival ∷ []))

abbrev pub manages_local : Message → Bool
manages_local x = is_set x.entry.entry.options MANAGE_LOCAL

-- the arrived bytes are "compared with the memory at rule 5's place as the call that hands the put out begins"
abbrev pub BytesStand : List ℕ → Message → Type 0
BytesStand m x = bytes_at m x.header.place (length x.arrived) ≡ x.arrived
