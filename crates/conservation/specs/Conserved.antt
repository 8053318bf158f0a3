-- Demand 3: "Early messages are conserved, for every list of these calls from a new target, refused ones included".
use Rattle.std.specs.Prelude.{◌≡◌, Bool, true, ◌||◌, ◌&&◌, cond, List, [], ◌∷◌, ◌++◌, map, ℕ, ◌+◌, ◌≤◌, eqb, ltb, length, Result}
use Rattle.matching.specs.declared.refusals.Refusal.{Refusal}
use Rattle.matching.specs.declared.events.EventKind.TheVariants as EventKind
use Rattle.state.specs.Lists.{select}
use Rattle.matching.specs.Kinds.{event_number}
use Rattle.state.specs.View.{view_of, is_linked, has_handle}
use Rattle.state.specs.Soundness.{is_sound}
use Rattle.state.specs.Registers.{register_at}
use Rattle.state.specs.Events.{Issued, overflow_event}
use Rattle.state.specs.declared.layout.HeldEntry.{HeldEntry}
use Rattle.state.specs.declared.layout.Header.{Header}
use Rattle.state.specs.declared.layout.Event.{Event}
use Rattle.state.specs.declared.layout.Settings.{Settings}
use Rattle.state.specs.declared.layout.Target.{Target}
use Rattle.portals.specs.Promises.{NewMet}
use Rattle.portals.specs.declared.answers.Done.{Done}
use Rattle.conservation.specs.Steps.{count, says_linked, events_read}
use Rattle.conservation.specs.Ledger.{Message, Ledger, Effect, nothing, delivery, link, taken, remove, look, delete, change, empty, hear, effect_of, message_at, header_at, headers_at, hand_outs, issued_by, queued_of}
use Rattle.conservation.specs.Runs.{Line, Ran}
use Rattle.conservation.specs.Answering.{AnswerRight, register_of}
use Rattle.conservation.specs.Bytes.{ledger_of, Stay, at_arrival, Undisturbed, manages_local, BytesStand, Memories}

-- a claim holds of every element
abbrev pub All : {A : Type 0} → (A → Type 0) → List A → Type 0
All P [] = Unit
All P (x ∷ l) = P x × All P l

-- ## At each step

abbrev pub is_overflow : Event → Bool
is_overflow e = eqb e.kind (event_number EventKind.PutOverflow) || eqb e.kind (event_number EventKind.GetOverflow)

-- the overflow event of each message that a step hands out, in that order
abbrev pub hand_outs_shown : Ledger → Effect → List Issued
hand_outs_shown b nothing = []
hand_outs_shown b (delivery portal a payload x) = []
hand_outs_shown b (link e handle) = map (λ n. overflow_event (header_at b.arrivals n) e handle) (hand_outs b (link e handle))
hand_outs_shown b (taken e) = map (λ n. overflow_event (header_at b.arrivals n) e 0) (hand_outs b (taken e))
hand_outs_shown b (remove handle) = []
hand_outs_shown b (look e) = []
hand_outs_shown b (delete e) = map (λ n. overflow_event (header_at b.arrivals n) e 0) (hand_outs b (delete e))
hand_outs_shown b (change k f) = []

-- what is right of a step, with the ledger as the step begins
pub record Right (b : Ledger) (l : Line) : Type 0 where
  -- its answer is the ledger's
  pub answer : AnswerRight (length l.memory) b l.step
  -- "all taken or deleted are handed out, with one overflow event each": the overflow events that the ledger has of it, whatever becomes of
  -- them, are those of the messages that it hands out; that they are the target's is said below, in `Agrees`
  pub overflow : select (λ i. is_overflow i.event) (issued_by b (effect_of b.linked l.step)) ≡ hand_outs_shown b (effect_of b.linked l.step)

-- a claim holds of every step, with the ledger as the step begins
abbrev pub Throughout : (Ledger → Line → Type 0) → Ledger → List Line → Type 0
Throughout P b [] = Unit
Throughout P b (l ∷ ls) = P b l × Throughout P (hear b l.step) ls

-- ## After the list

abbrev pub at_portal : ℕ → Header → Bool
at_portal portal h = eqb h.portal portal

-- among the target's entries, one has the handle of the message's entry, and it is that entry
abbrev pub WaitsIn : List HeldEntry → Message → Type 0
WaitsIn entries x = map (λ (y : HeldEntry). y.entry) (select (has_handle x.entry.handle) entries) ≡ x.entry.entry ∷ []

-- how often a number is in a list
abbrev pub times : ℕ → List ℕ → ℕ
times n [] = 0
times n (k ∷ ks) = cond (eqb k n) 1 0 + times n ks

-- each number is above the one before it, and the first at least `low`
abbrev pub ascends : ℕ → List ℕ → Bool
ascends low [] = true
ascends low (k ∷ ks) = ltb low (k + 1) && ascends (k + 1) ks

-- what holds of the target, and of the length of the memory beside it, by the ledger
pub record Agrees (b : Ledger) (t : Target) (m : List ℕ) : Type 0 where
  -- "Every call on a sound state leaves a sound one."
  pub sound : is_sound t ≡ true
  pub size : length m ≡ (view_of t).size
  -- "each portal's waiting messages are, in arrival order, exactly those an overflow entry accepted with a header, less those handed out
  -- since by append or deleting search, as in document 01's book": field by field
  pub waiting : (portal : ℕ) → select (at_portal portal) (view_of t).headers ≡ select (at_portal portal) (headers_at b b.waiting)
  -- the same of all portals in one list
  pub headers : (view_of t).headers ≡ headers_at b b.waiting
  -- and each waits in its entry: the target has just one of its handle, linked or retired, and that is the message's, but for its local
  -- offset
  pub homes : All (λ n. WaitsIn (view_of t).entries (message_at b.arrivals n)) b.waiting
  -- "each portal's linked entries with local offsets": of all portals in one list, in the order of linking
  pub linked : select is_linked (view_of t).entries ≡ b.linked
  -- the last handle given is the number of LINKED answers
  pub last : (view_of t).last ≡ count says_linked b.heard
  -- the events read so far, then those still queued, are the ledger's that were queued, in order, of all kinds and with their gaps
  pub events : events_read b.heard ++ (view_of t).queue.events ≡ queued_of b.events.all
  -- whether the next one carries a gap
  pub mark : (view_of t).queue.lost ≡ b.events.mark
  -- so "The overflow events read so far, then those still queued, are exactly the book's in order, less those disabled and those that met
  -- a full queue."
  pub overflow : select is_overflow (events_read b.heard ++ (view_of t).queue.events) ≡ select is_overflow (queued_of b.events.all)
  -- "Each status register equals, modulo 2^64, the number of answers of its kind."
  pub registers : (k : ℕ) → k ≤ 2 → register_at (view_of t).registers k ≡ register_of b.heard k
  -- both fields of every counter
  pub counters : (view_of t).counters ≡ b.counters

-- what holds of the ledger alone, whatever was answered: the numbers of the arrivals
pub record LedgerRight (b : Ledger) : Type 0 where
  -- "Accepted with a header = waiting + handed out"
  pub accepted : length b.arrivals ≡ length b.waiting + length b.handed
  -- "each once": the number of every arrival is in the two lists once, and no other number is
  pub once : (n : ℕ) → times n b.waiting + times n b.handed ≡ cond (ltb n (length b.arrivals)) 1 0
  -- "in arrival order"
  pub ascending : ascends 0 b.waiting ≡ true

-- a list that begins with the memory `start` and leaves the target t and the memory m
pub record Conserved (start : List ℕ) (log : List Line) (t : Target) (m : List ℕ) : Type 0 where
  pub target : Agrees (ledger_of log) t m
  -- "Overflow events and search counts are the book's.", and so is every answer
  pub each : Throughout Right empty log
  -- "A put handed out from an overflow entry that manages its own offset still has its arrived bytes in memory, up to the accepted length,
  -- if between its arrival and that call no other linked entry's region shared a byte with that entry's region, and no host write changed
  -- a byte of it."
  pub bytes : (x : Message) (s : Stay log x)
      → manages_local x ≡ true
      → Undisturbed x (at_arrival s) s.between
      → BytesStand s.compared.memory x
  -- "Memory .. stands beside the state": what each step begins with and leaves
  pub memories : Memories empty start log m
  pub ledger : LedgerRight (ledger_of log)

-- "for every list of these calls from a new target". "Memory of the target's size stands beside the state". Every beginning of a list is a
-- list, so the claim holds after each of its steps
abbrev pub Conservation : Type 0
Conservation =
    (s : Settings) (new : Done (Result Unit Refusal)) (start : List ℕ) (log : List Line) (t : Target) (m : List ℕ)
    → NewMet s new
    → length start ≡ (view_of new.target).size
    → Ran new.target start log t m
    → Conserved start log t m
