-- Document 01, "Bench cases (these are proved)": each row is the inputs of a rule or a call, and what it must give.
use Rattle.std.specs.Prelude.{◌≡◌, Bool, true, false, List, [], ◌∷◌, ◌++◌, map, ℕ, zero, suc, ◌-◌, ◌^◌, length, replicate}
use Rattle.matching.specs.Bits.{is_set}
use Rattle.matching.specs.Entry.{USE_ONCE, ANY}
use Rattle.matching.specs.Request.{arrival_of, matches, accepted, place, unlinks}
use Rattle.matching.specs.declared.layout.Entry.{Entry}
use Rattle.matching.specs.declared.layout.Request.{Request}
use Rattle.matching.specs.declared.request.Kind.{Kind}
use Rattle.matching.specs.declared.request.Arrival.{Arrival}
use Rattle.state.specs.View.{View, EventQueue, empty_queue, empty_view, with_last, with_entries, with_headers, with_queue}
use Rattle.state.specs.Soundness.{sound_view}
use Rattle.state.specs.Events.{Issued, link_event, post}
use Rattle.state.specs.declared.layout.Event.{Event}
use Rattle.state.specs.declared.layout.Registers.{Registers}
use Rattle.state.specs.declared.layout.CounterChange.{CounterChange}
use Rattle.requests.specs.Plan.{message}
use Rattle.early.specs.Handling.{new_entry}
use Rattle.portals.specs.Answers.{Answer, REFUSED, LINKED, OVERFLOW, DROPPED, PERM, OP, COUNTER}
use Rattle.portals.specs.EventRead.{read_event}
use Rattle.portals.specs.CounterCalls.{set_counter, increment, read_counter}
use Rattle.portals.specs.Request.{put}
use Rattle.portals.specs.EarlyMessages.{append}

-- what happens to the event queue: an event is issued, or the oldest is read
pub data Turn : Type 0 where
  issues : Issued → Turn
  reads : Turn

abbrev pub turned : EventQueue → Turn → EventQueue
turned q (issues i) = post q i
turned q reads = (read_event (with_queue (empty_view 0) q)).state.queue

abbrev pub turns : EventQueue → List Turn → EventQueue
turns q [] = q
turns q (t ∷ ts) = turns (turned q t) ts

pub data Case : Type 0 where
  -- an entry, its local offset, a request: the accepted length and the place
  moves : Entry → ℕ → Arrival → ℕ → ℕ → Case
  -- whether the entry matches
  matching : Entry → ℕ → Arrival → Bool → Case
  -- whether the entry unlinks
  unlinking : Entry → ℕ → Arrival → Bool → Case
  -- no entry with min_free 0 and without USE_ONCE unlinks
  never_unlinking : Case
  -- a sound state, a memory and a put: the answer, the registers after it, and how many headers wait after it
  putting : View → List ℕ → Request → List ℕ → Answer → Registers → ℕ → Case
  -- a counter is set, then incremented: what is read
  counting : CounterChange → CounterChange → Answer → Case
  -- from an empty queue: the users and gaps of the events that are queued in the end, and the mark of lost ones
  queueing : List Turn → List (ℕ × ℕ) → ℕ → Case
  -- a sound state and an append: the answer
  appending : View → Entry → Answer → Case

abbrev pub user_and_gap : Event → ℕ × ℕ
user_and_gap e = (e.user, e.gap)

-- what a row says: that the rules give what stands in it
abbrev pub Holds : Case → Type 0
Holds (moves e local a n at) = ◌≡◌ {A = ℕ × ℕ} (accepted e local a, place e local a) (n, at)
Holds (matching e local a x) = matches e local a ≡ x
Holds (unlinking e local a x) = unlinks e local a ≡ x
Holds never_unlinking =
    (e : Entry) (local : ℕ) (a : Arrival) → e.minfree ≡ 0 → is_set e.options USE_ONCE ≡ false → unlinks e local a ≡ false
Holds (putting v memory q payload answer registers waiting) =
    ◌≡◌ {A = Bool × Answer × Registers × ℕ} (
      sound_view v,
      (put v memory q payload).answer,
      (put v memory q payload).state.registers,
      length (put v memory q payload).state.headers,
    )
    (true, answer, registers, waiting)
Holds (counting x y answer) = read_counter (increment (set_counter (empty_view 0) x).state y).state x.counter ≡ answer
Holds (queueing ts seen lost) =
    ◌≡◌ {A = List (ℕ × ℕ) × ℕ}
    (map user_and_gap (turns empty_queue ts).events, (turns empty_queue ts).lost)
    (seen, lost)
Holds (appending v e answer) = ◌≡◌ {A = Bool × Answer} (sound_view v, (append v e).answer) (true, answer)

-- every row holds: the first, and then the others
infixr 5 ◌then◌
pub data AllHold : List Case → Type 0 where
  done : AllHold []
  ◌then◌ : {c : Case} {cs : List Case} → Holds c → AllHold cs → AllHold (c ∷ cs)

-- ## What the rows are made of

-- list, options, start, length, min_free, uid, match bits, ignore bits, user; any nid and pid
abbrev pub entry_of : ℕ → ℕ → ℕ → ℕ → ℕ → ℕ → ℕ → ℕ → ℕ → Entry
entry_of list options start length minfree uid matchbits ignorebits user = record {
  portal = 0;
  list = list;
  counter = 255;
  options = options;
  start = start;
  length = length;
  minfree = minfree;
  uid = uid;
  nid = ANY;
  pid = ANY;
  matchbits = matchbits;
  ignorebits = ignorebits;
  user = user;
}

-- an entry that takes any match bits
abbrev pub entry_with : ℕ → ℕ → ℕ → ℕ → ℕ → ℕ → Entry
entry_with list options start length minfree uid = entry_of list options start length minfree uid 0 (2 ^ 64 - 1) 7

-- an entry of any uid at start 100
abbrev pub entry : ℕ → ℕ → ℕ → Entry
entry options length minfree = entry_with 0 options 100 length minfree ANY

-- match bits, offset
abbrev pub request_of : ℕ → ℕ → Request
request_of matchbits offset =
    record { portal = 0; ack = 1; nid = 1; pid = 2; uid = 3; matchbits = matchbits; offset = offset; hdrdata = 9 }

abbrev pub request : Request
request = request_of 5 0

-- a put with these match bits
abbrev pub put_for : ℕ → Arrival
put_for matchbits = arrival_of (request_of matchbits 0) Kind.Put 1

-- a put at an offset, of so many bytes
abbrev pub put_of : ℕ → ℕ → Arrival
put_of offset requested = arrival_of (request_of 5 offset) Kind.Put requested

-- a target with 16 bytes of memory and two linked entries
abbrev pub two_entries : Entry → Entry → View
two_entries e f = with_last (with_entries (empty_view 16) (new_entry e 1 ∷ new_entry f 2 ∷ [])) 2

-- a target with two overflow entries: the first with these options, and a second one in which so many messages wait
abbrev pub waiting : ℕ → ℕ → View
waiting options n =
    with_headers (two_entries (entry_with 1 options 0 8 0 ANY) (entry_with 1 1 8 8 0 ANY))
    (replicate n (message (new_entry (entry_with 1 1 8 8 0 ANY) 2) 0 (put_of 0 1)))

abbrev pub registers : ℕ → ℕ → ℕ → Registers
registers dropped permission operation = record { dropped = dropped; permission = permission; operation = operation }

abbrev pub zeros : List ℕ
zeros = replicate 16 0

abbrev pub change : ℕ → ℕ → CounterChange
change success failure = record { counter = 15; success = success; failure = failure }

-- the LINK event of an entry with this user is issued
abbrev pub link : ℕ → Turn
link user = issues (link_event (entry_of 0 1 0 8 0 ANY 5 0 user) 1)

-- so many of them, the users counting up
abbrev pub links : ℕ → ℕ → List Turn
links zero user = []
links (suc n) user = link user ∷ links n (suc user)

-- so many users, counting up, with gap 0
abbrev pub users_from : ℕ → ℕ → List (ℕ × ℕ)
users_from zero user = []
users_from (suc n) user = (user, 0) ∷ users_from n (suc user)

-- ## The table. Options: 1 is OP_PUT, 2 OP_GET, 4 MANAGE_LOCAL, 8 NO_TRUNCATE, 64 UNEXPECTED_HDR_DISABLE.
abbrev pub table : List Case
table =
    -- "1. Match 16, ignore 15: bits 31 match, 32 do not."
    matching (entry_of 0 1 0 8 0 ANY 16 15 7) 0 (put_for 31) true
    ∷ matching (entry_of 0 1 0 8 0 ANY 16 15 7) 0 (put_for 32) false
    -- "2. Length 10, offset 8: 2 bytes give 2, 3 give 2; offset 11 gives 0 at start plus 10."
    ∷ moves (entry 1 10 0) 0 (put_of 8 2) 2 108
    ∷ moves (entry 1 10 0) 0 (put_of 8 3) 2 108
    ∷ moves (entry 1 10 0) 0 (put_of 11 3) 0 110
    -- "3. The same with NO_TRUNCATE: 2 match, 3 do not; offset 11 with 0 bytes matches."
    ∷ matching (entry 9 10 0) 0 (put_of 8 2) true
    ∷ matching (entry 9 10 0) 0 (put_of 8 3) false
    ∷ matching (entry 9 10 0) 0 (put_of 11 0) true
    -- "4. MANAGE_LOCAL, length 10, offset 6, min_free 4: 0 bytes keeps it, 1 byte unlinks. min_free 0 alone never unlinks."
    ∷ unlinking (entry 5 10 4) 6 (put_of 0 0) false
    ∷ unlinking (entry 5 10 4) 6 (put_of 0 1) true
    ∷ never_unlinking
    -- "5. First match lacks OP_PUT, second has it: OP."
    ∷ putting (two_entries (entry_with 0 2 0 8 0 ANY) (entry_with 0 1 8 8 0 ANY)) zeros request (1 ∷ []) (OP 1) (registers 0 0 1) 0
    -- "6. Wrong uid and wrong kind: PERM."
    ∷ putting (two_entries (entry_with 0 2 0 8 0 4) (entry_with 0 1 8 8 0 ANY)) zeros request (1 ∷ []) (PERM 1) (registers 0 1 0) 0
    -- "7. 32 waiting: the next that would be left waiting is DROPPED.": the 32nd waits, and one that is not left waiting is delivered
    ∷ putting (waiting 1 31) zeros request (1 ∷ []) (OVERFLOW 1 0 1) (registers 0 0 0) 32
    ∷ putting (waiting 1 32) zeros request (1 ∷ []) (DROPPED 1) (registers 1 0 0) 32
    ∷ putting (waiting 65 32) zeros request (1 ∷ []) (OVERFLOW 1 0 1) (registers 0 0 0) 32
    -- "8. Success 2^64 - 1 plus 1 is 0."
    ∷ counting (change (2 ^ 64 - 1) 0) (change 1 0) (COUNTER 0 0)
    -- "9. Event 65 is lost; after one read the next queued has gap 1."; the one after it has gap 0 again
    ∷ queueing (links 65 1) (users_from 64 1) 1
    ∷ queueing (links 65 1 ++ (reads ∷ link 66 ∷ [])) (users_from 63 2 ++ ((66, 1) ∷ [])) 0
    ∷ queueing (links 65 1 ++ (reads ∷ link 66 ∷ reads ∷ link 67 ∷ [])) (users_from 62 3 ++ ((66, 1) ∷ (67, 0) ∷ [])) 0
    -- "10. Memory 16, start 16: length 0 links, 1 is ARG_INVALID."
    ∷ appending (empty_view 16) (entry_with 0 1 16 0 0 ANY) (LINKED 1)
    ∷ appending (empty_view 16) (entry_with 0 1 16 1 0 ANY) (REFUSED 3)
    ∷ []
