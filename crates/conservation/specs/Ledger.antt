-- Document 01's book, here called the ledger: "The book hears arguments and answers only and starts empty." It is a fold over steps,
-- and by its type it cannot see a target.
use Rattle.std.specs.Prelude.{Bool, true, false, ◌||◌, cond, List, [], ◌∷◌, ◌++◌, map, ℕ, eqb, ltb, length, take, drop, set, get_or, replicate}
use Rattle.std.specs.Prelude.{Option, None, Some}
use Rattle.matching.specs.Request.{arrival_of, accepted, local_after, unlinks}
use Rattle.matching.specs.EarlyMessages.{takes_headers}
use Rattle.matching.specs.Counters.{comm_amount, overflow_amount}
use Rattle.matching.specs.declared.layout.Entry.{Entry}
use Rattle.matching.specs.declared.request.Arrival.{Arrival}
use Rattle.matching.specs.declared.request.Kind.{Kind}
use Rattle.state.specs.Sizes.{EVENTS, COUNTERS}
use Rattle.state.specs.Lists.{any, select_not, sum_of}
use Rattle.state.specs.View.{has_handle, zero_entry, zero_header, zero_counter}
use Rattle.state.specs.Soundness.{names}
use Rattle.state.specs.Counters.{counter_at, increased, counted}
use Rattle.state.specs.Events.{Issued, arrival_event, auto_unlink_event, overflow_event, auto_free_event, link_event, search_event, no_match_event, is_disabled, with_gap, gap_of}
use Rattle.state.specs.declared.layout.HeldEntry.{HeldEntry}
use Rattle.state.specs.declared.layout.Header.{Header}
use Rattle.state.specs.declared.layout.Event.{Event}
use Rattle.state.specs.declared.layout.Counter.{Counter}
use Rattle.requests.specs.Choice.{is_candidate}
use Rattle.requests.specs.Plan.{message}
use Rattle.early.specs.Walk.{Walk, walk, no_walk, uses_once, fits_header}
use Rattle.early.specs.Handling.{new_entry}
use Rattle.portals.specs.Answers.{Answer}
use Rattle.portals.specs.Calls.{Call, append, unlink, search, put, get, read_event, set_counter, increment, read_counter, read_register, ready, poll}
use Rattle.conservation.specs.Steps.{Step, called, elsewhere, wrote, handle_in, answers_in, events_read, says_linked, says_searched, says_priority, says_overflow, says_taken, says_done}

-- ## What the ledger holds

-- "messages (kind, event fields nid to header data, entry)"
pub record Message : Type 0 where
  -- its portal, its kind, the event fields nid to header data, and the handle of its entry
  pub header : Header
  -- the overflow entry as the message arrived, its local offset not yet grown
  pub entry : HeldEntry
  -- "A put's arrived bytes are the first of its payload, up to the accepted length"; a get brings none
  pub arrived : List ℕ

-- what becomes of an event: its options disable it, it meets a full queue, or it is queued, with this gap
pub data Fate : Type 0 where
  disabled : Fate
  lost : Fate
  queued : ℕ → Fate

pub record Fated : Type 0 where
  pub issued : Issued
  pub fate : Fate

-- every event that the rules issued, in order; and the mark that one met a full queue since the last was queued
pub record Fates : Type 0 where
  pub all : List Fated
  pub mark : ℕ

pub record Ledger : Type 0 where
  -- the linked entries of all portals with their local offsets, in the order of linking
  pub linked : List HeldEntry
  -- every message that an overflow entry accepted with a header, in the order of arrival: this list only grows, and a message's number
  -- is its place in it, from 0
  pub arrivals : List Message
  -- the numbers of those that wait, and of those handed out
  pub waiting : List ℕ
  pub handed : List ℕ
  -- of all kinds; document 01's book has the overflow events
  pub events : Fates
  -- document 01's book has none: they are here so that every answer can be held against the ledger
  pub counters : List Counter
  -- every answer
  pub heard : List Answer

abbrev pub empty : Ledger
empty = record { linked = []; arrivals = []; waiting = []; handed = []; events = record { all = []; mark = 0 }; counters = replicate COUNTERS zero_counter; heard = [] }

-- the message of a number
abbrev pub message_at : List Message → ℕ → Message
message_at arrivals n = get_or arrivals n (record { header = zero_header; entry = zero_entry; arrived = [] })

abbrev pub header_at : List Message → ℕ → Header
header_at arrivals n = (message_at arrivals n).header

-- the headers of messages, by their numbers
abbrev pub headers_at : Ledger → List ℕ → List Header
headers_at b numbers = map (header_at b.arrivals) numbers

-- ## What a step does, as far as the ledger goes

pub data Effect : Type 0 where
  -- "All else, refusals included, changes nothing."
  nothing : Effect
  -- PRIORITY or OVERFLOW: portal, request, a put's payload, and the entry that rule 3 chooses
  delivery : ℕ → Arrival → List ℕ → HeldEntry → Effect
  -- LINKED, with its handle
  link : Entry → ℕ → Effect
  -- TAKEN
  taken : Entry → Effect
  -- DONE of an unlink, with the handle
  remove : ℕ → Effect
  -- SEARCHED, in mode 0 and in mode 1
  look : Entry → Effect
  delete : Entry → Effect
  -- DONE of a counter call: the counter, and what becomes of it
  change : ℕ → (Counter → Counter) → Effect

module _ {A : Type 0} where
  abbrev pub first_of : (A → Bool) → List A → Option A
  first_of p [] = None
  first_of p (x ∷ l) = cond (p x) (Some x) (first_of p l)

  abbrev pub otherwise : Option A → Option A → Option A
  otherwise None other = other
  otherwise (Some x) other = Some x

-- rule 3: "The first matching entry of the priority list is chosen; if there is none, the first of the overflow list."
unfoldable pub chosen : List HeldEntry → ℕ → Arrival → Option HeldEntry
chosen linked portal a = otherwise (first_of (is_candidate portal 0 a) linked) (first_of (is_candidate portal 1 a) linked)

abbrev pub delivery_to : ℕ → Arrival → List ℕ → Option HeldEntry → Effect
delivery_to portal a payload None = nothing
delivery_to portal a payload (Some x) = delivery portal a payload x

-- "At PRIORITY or OVERFLOW rules 1 to 3 and 5 to 7 run on the book"
abbrev pub request_effect : List HeldEntry → ℕ → Arrival → List ℕ → Answer → Effect
request_effect linked portal a payload answer =
    cond (says_priority answer || says_overflow answer)
    (delivery_to portal a payload (chosen linked portal a))
    nothing

abbrev pub call_effect : List HeldEntry → Call → Answer → Effect
call_effect linked (append e) answer =
    cond (says_linked answer) (link e (handle_in answer)) (cond (says_taken answer) (taken e) nothing)
call_effect linked (unlink handle) answer = cond (says_done answer) (remove handle) nothing
call_effect linked (search e) answer = cond (says_searched answer) (cond (eqb e.list 0) (look e) (delete e)) nothing
call_effect linked (put q payload) answer =
    request_effect linked q.portal (arrival_of q Kind.Put (length payload)) payload answer
call_effect linked (get q reply) answer = request_effect linked q.portal (arrival_of q Kind.Get (length reply)) [] answer
call_effect linked read_event answer = nothing
call_effect linked (set_counter x) answer =
    cond (says_done answer) (change x.counter (λ c. record { success = x.success; failure = x.failure })) nothing
call_effect linked (increment x) answer =
    cond (says_done answer) (change x.counter (λ c. increased c x.success x.failure)) nothing
call_effect linked (read_counter k) answer = nothing
call_effect linked (read_register k) answer = nothing
call_effect linked (ready x) answer = nothing
call_effect linked (poll ks tests) answer = nothing

abbrev pub effect_of : List HeldEntry → Step → Effect
effect_of linked (called c answer) = call_effect linked c answer
effect_of linked (elsewhere n answer) = nothing
effect_of linked (wrote m m') = nothing

-- ## The linked entries

abbrev pub with_local : HeldEntry → ℕ → HeldEntry
with_local x local = record { entry = x.entry; handle = x.handle; local = local; retired = x.retired }

-- the entry of this handle has another local offset
abbrev pub moved : ℕ → ℕ → List HeldEntry → List HeldEntry
moved handle local l = map (λ x. cond (has_handle handle x) (with_local x local) x) l

abbrev pub without : ℕ → List HeldEntry → List HeldEntry
without handle l = select_not (has_handle handle) l

-- rule 7, "the entry unlinks", or else rule 6, "offset grows"; "LINKED puts an entry last in its list; unlink removes one."
abbrev pub linked_after : List HeldEntry → Effect → List HeldEntry
linked_after l nothing = l
linked_after l (delivery portal a payload x) =
    cond (unlinks x.entry x.local a) (without x.handle l) (moved x.handle (local_after x.entry x.local a) l)
linked_after l (link e handle) = l ++ (new_entry e handle ∷ [])
linked_after l (taken e) = l
linked_after l (remove handle) = without handle l
linked_after l (look e) = l
linked_after l (delete e) = l
linked_after l (change k f) = l

-- ## The messages

-- "rule 6's header is a waiting message"
abbrev pub message_of : ℕ → Arrival → List ℕ → HeldEntry → Message
message_of portal a payload x = record {
  header = message x portal a;
  entry = x;
  arrived = take (accepted x.entry x.local a) payload;
}

-- "Overflow: a header joins .., unless disabled."
abbrev pub arrivals_of : Effect → List Message
arrivals_of nothing = []
arrivals_of (delivery portal a payload x) = cond (takes_headers x.entry) (message_of portal a payload x ∷ []) []
arrivals_of (link e handle) = []
arrivals_of (taken e) = []
arrivals_of (remove handle) = []
arrivals_of (look e) = []
arrivals_of (delete e) = []
arrivals_of (change k f) = []

module _ (b : Ledger) where
  -- "An append or search that is not refused walks the book's waiting messages as above"
  abbrev pub search_walk : Entry → Walk ℕ
  search_walk e = walk (uses_once e) (λ n. fits_header e (header_at b.arrivals n)) b.waiting

  -- an append: "Appending to overflow just links."
  abbrev pub append_walk : Entry → Walk ℕ
  append_walk e = cond (eqb e.list 0) (search_walk e) (no_walk b.waiting)

  -- "all taken or deleted are handed out"
  abbrev pub hand_outs : Effect → List ℕ
  hand_outs nothing = []
  hand_outs (delivery portal a payload x) = []
  hand_outs (link e handle) = (append_walk e).found
  hand_outs (taken e) = (append_walk e).found
  hand_outs (remove handle) = []
  hand_outs (look e) = []
  hand_outs (delete e) = (search_walk e).found
  hand_outs (change k f) = []

  abbrev pub waiting_after : Effect → List ℕ
  waiting_after nothing = b.waiting
  waiting_after (delivery portal a payload x) =
      cond (takes_headers x.entry) (b.waiting ++ (length b.arrivals ∷ [])) b.waiting
  waiting_after (link e handle) = (append_walk e).left
  waiting_after (taken e) = (append_walk e).left
  waiting_after (remove handle) = b.waiting
  waiting_after (look e) = b.waiting
  waiting_after (delete e) = (search_walk e).left
  waiting_after (change k f) = b.waiting

-- ## The events

-- the entry of a message keeps its slot without it: the entry is linked, or one of these other messages waits in it too. Else it was "a
-- retired entry's last": a call does not unlink an entry with waiting messages (IN_USE)
abbrev pub kept_without : List HeldEntry → Header → List Header → Bool
kept_without linked h others = any (has_handle h.handle) linked || any (names h.handle) others

-- AUTO_FREE "if it was a retired entry's last"
abbrev pub auto_free_events : List HeldEntry → Message → List Header → List Issued
auto_free_events linked x others = cond (kept_without linked x.header others) [] (auto_free_event x.entry ∷ [])

-- "one overflow event each", "followed by AUTO_FREE". `owner`: the handle of the entry that takes it, 0 if that has none. When one is
-- handed out, those found later and those left still wait
abbrev pub overflow_events : Ledger → Entry → ℕ → List ℕ → List ℕ → List Issued
overflow_events b e owner [] left = []
overflow_events b e owner (n ∷ later) left =
    overflow_event (header_at b.arrivals n) e owner
    ∷ auto_free_events b.linked (message_at b.arrivals n) (headers_at b (later ++ left))
    ++ overflow_events b e owner later left

abbrev pub walk_events : Ledger → Entry → ℕ → Walk ℕ → List Issued
walk_events b e owner w = overflow_events b e owner w.found w.left

-- "Without USE_ONCE, or with no fit, a SEARCH with NO_MATCH closes it (000)."
abbrev pub no_match_events : Entry → List ℕ → List Issued
no_match_events e [] = no_match_event e ∷ []
no_match_events e (n ∷ found) = cond (uses_once e) [] (no_match_event e ∷ [])

-- all events of a step, in document 01's order
abbrev pub issued_by : Ledger → Effect → List Issued
issued_by b nothing = []
issued_by b (delivery portal a payload x) =
    arrival_event (message x portal a) x ∷ cond (unlinks x.entry x.local a) (auto_unlink_event x ∷ []) []
issued_by b (link e handle) = walk_events b e handle (append_walk b e) ++ (link_event e handle ∷ [])
issued_by b (taken e) = walk_events b e 0 (append_walk b e)
issued_by b (remove handle) = []
issued_by b (look e) =
    map (λ n. search_event e (header_at b.arrivals n)) (search_walk b e).found ++ no_match_events e (search_walk b e).found
issued_by b (delete e) = walk_events b e 0 (search_walk b e) ++ no_match_events e (search_walk b e).found
issued_by b (change k f) = []

-- the events that were queued, as they were queued
abbrev pub queued_as : Event → Fate → List Event
queued_as e disabled = []
queued_as e lost = []
queued_as e (queued gap) = with_gap e gap ∷ []

abbrev pub queued_of : List Fated → List Event
queued_of [] = []
queued_of (t ∷ ts) = queued_as t.issued.event t.fate ++ queued_of ts

-- by what was found: the options disable it, the queue has room.
-- "An event that meets a full queue is lost; the next one queued carries gap 1, others 0."
abbrev pub add_by : Bool → Bool → Fates → Issued → Fates
add_by true room s i = record { all = s.all ++ (record { issued = i; fate = disabled } ∷ []); mark = s.mark }
add_by false true s i = record { all = s.all ++ (record { issued = i; fate = queued (gap_of s.mark) } ∷ []); mark = 0 }
add_by false false s i = record { all = s.all ++ (record { issued = i; fate = lost } ∷ []); mark = 1 }

-- those that were queued, without the first `read`, which were read
abbrev pub still_queued : ℕ → Fates → List Event
still_queued read s = drop read (queued_of s.all)

-- `read`: how many were read so far
unfoldable pub add_event : ℕ → Fates → Issued → Fates
add_event read s i = add_by (is_disabled i) (ltb (length (still_queued read s)) EVENTS) s i

abbrev pub add_all : ℕ → Fates → List Issued → Fates
add_all read s [] = s
add_all read s (i ∷ is) = add_all read (add_event read s i) is

-- ## The counters

-- "CT_OVERFLOW headers taken by append", on the appended entry's counter
abbrev pub overflow_counted : Ledger → Entry → List Counter
overflow_counted b e =
    counted b.counters e.counter (sum_of (λ n. overflow_amount e.options (header_at b.arrivals n).accepted) (append_walk b e).found)

-- "CT_COMM counts accepted requests"; a search counts nothing: decision 4
abbrev pub counters_after : Ledger → Effect → List Counter
counters_after b nothing = b.counters
counters_after b (delivery portal a payload x) =
    counted b.counters x.entry.counter (comm_amount x.entry.options (accepted x.entry x.local a))
counters_after b (link e handle) = overflow_counted b e
counters_after b (taken e) = overflow_counted b e
counters_after b (remove handle) = b.counters
counters_after b (look e) = b.counters
counters_after b (delete e) = b.counters
counters_after b (change k f) = set b.counters k (f (counter_at b.counters k))

-- ## The fold

abbrev pub effect_heard : Ledger → Effect → List Answer → Ledger
effect_heard b d answers = record {
  linked = linked_after b.linked d;
  arrivals = b.arrivals ++ arrivals_of d;
  waiting = waiting_after b d;
  handed = b.handed ++ hand_outs b d;
  events = add_all (length (events_read b.heard)) b.events (issued_by b d);
  counters = counters_after b d;
  heard = b.heard ++ answers;
}

abbrev pub hear : Ledger → Step → Ledger
hear b s = effect_heard b (effect_of b.linked s) (answers_in s)
