-- The events that the ledger logs are those that the rules post.
use mathlib.Core.Path.{◌≡◌, refl, ap, sym, ◌∙◌}
use mathlib.Core.Bool.{Bool, true, false, ◌&&◌, ◌||◌, not, cond, and-false, and-true}
use mathlib.Core.List.{List, [], ◌∷◌, ◌++◌, map, map-map, map-append, append-nil, append_assoc}
use Prim.Native.Nat.{ℕ, ◌+◌}
use native.Mathlib.Omega.{arith}
use borrow.Author.Tests.{not-true, eqb-true, eqb-false, ne_eqb, eq-eqb}
use lib.Dec.{eqb, ltb}
use lib.ListN.{length, drop}
use lib.Seq.{drop-append_seam}
use Rattle.matching.specs.Request.{unlinks}
use Rattle.matching.specs.declared.layout.Entry.{Entry}
use Rattle.matching.specs.declared.request.Kind.{Kind}
use Rattle.matching.specs.declared.events.EventKind.{EventKind}
use Rattle.state.specs.Sizes.{EVENTS}
use Rattle.state.specs.Lists.{every, any, select}
use Rattle.matching.specs.Kinds.{kind_of, event_number}
use Rattle.state.specs.View.{EventQueue, is_linked, has_handle}
use Rattle.state.specs.Soundness.{distinct, names, waits_in, holds, lengths_kept, header_sound}
use Rattle.state.specs.Events.{Issued, arrival_kind, overflow_kind, overflow_event, auto_free_event, auto_unlink_event, link_event, search_event, no_match_event, is_disabled, with_gap, gap_of, post_by, post, post_all, without_oldest}
use Rattle.state.specs.declared.layout.HeldEntry.{HeldEntry}
use Rattle.state.specs.declared.layout.Header.{Header}
use Rattle.state.specs.declared.layout.Event.{Event}
use Rattle.state.proofs.ListLaws.{both, neither, part_none, part-select}
use Rattle.requests.specs.Plan.{message}
use Rattle.early.specs.Walk.{Walk, uses_once}
use Rattle.early.specs.HandOut as early
use Rattle.early.specs.HandOut.{freed_by}
use Rattle.early.specs.Handling as handling
use Rattle.portals.specs.Answers.{Answer}
use Rattle.portals.specs.EventRead.{oldest_of}
use Rattle.conservation.specs.Steps.{count, event_in, events_read}
use Rattle.conservation.specs.Ledger.{still_queued, Message, Fated, Fates, Ledger, Effect, nothing, delivery, link, taken, remove, look, delete, change, message_at, header_at, auto_free_events, overflow_events, walk_events, no_match_events, issued_by, queued_as, queued_of, add_by, add_event, add_all, append_walk, search_walk, headers_at}
use Rattle.conservation.specs.Conserved.{All, is_overflow, hand_outs_shown}
use Rattle.conservation.proofs.Relations.{Home, SameEvents}

-- ## The queue

queued-append : (ts us : List Fated) → queued_of (ts ++ us) ≡ queued_of ts ++ queued_of us
queued-append [] us = refl
queued-append (t ∷ ts) us =
    let first = queued_as t.issued.event t.fate in
    ap (λ (l : List Event). first ++ l) (queued-append ts us) ∙ sym (append_assoc first (queued_of ts) (queued_of us))

-- those that were queued, without those read, are in the queue
pub unread : {reads : List Event} {q : EventQueue} {s : Fates} → SameEvents reads q s → still_queued (length reads) s ≡ q.events
unread {reads} {q} {s} t = ap (drop (length reads)) (sym t.events) ∙ drop-append_seam reads q.events

module _ {reads : List Event} {q : EventQueue} {s : Fates} (t : SameEvents reads q s) where
  -- an event is added; `new`: what of it is queued
  queued-more : (n : Fated) (new : List Event) → queued_of (n ∷ []) ≡ new → reads ++ (q.events ++ new) ≡ queued_of (s.all ++ (n ∷ []))
  queued-more n new e =
      sym (append_assoc reads q.events new)
      ∙ ap (λ (l : List Event). l ++ new) t.events
      ∙ ap (λ (l : List Event). queued_of s.all ++ l) (sym e)
      ∙ sym (queued-append s.all (n ∷ []))

  -- none of it is
  unqueued-more : (n : Fated) → queued_of (n ∷ []) ≡ [] → reads ++ q.events ≡ queued_of (s.all ++ (n ∷ []))
  unqueued-more n e = ap (λ (l : List Event). reads ++ l) (sym (append-nil q.events)) ∙ queued-more n [] e

  added-by : (off room : Bool) (i : Issued) → SameEvents reads (post_by off room q i.event) (add_by off room s i)
  added-by true room i = record { events = unqueued-more _ refl; mark = t.mark }
  added-by false true i = record {
    events = queued-more _ _ (ap (λ (n : ℕ). with_gap i.event (gap_of n) ∷ []) (sym t.mark));
    mark = refl;
  }
  added-by false false i = record { events = unqueued-more _ refl; mark = refl }

  added-one : (i : Issued) → SameEvents reads (post q i) (add_event (length reads) s i)
  unfolding post add_event
  added-one i = rw (unread t) (added-by (is_disabled i) (ltb (length q.events) EVENTS) i)

-- the events of a step are posted, and added
pub added-all : {reads : List Event} {q : EventQueue} {s : Fates} → SameEvents reads q s → (is : List Issued)
    → SameEvents reads (post_all q is) (add_all (length reads) s is)
added-all t [] = t
added-all {reads = reads} {q = q} {s = s} t (i ∷ is) =
    added-all {q = post q i} {s = add_event (length reads) s i} (added-one t i) is

-- the oldest is read: it moves from the queue to those read
pub read_one : {reads : List Event} {q : EventQueue} {s : Fates} → SameEvents reads q s
    → SameEvents (reads ++ event_in (oldest_of q.events)) (without_oldest q) s
read_one {reads} {q} {s} t = record {
  events =
      append_assoc reads (event_in (oldest_of q.events)) (drop 1 q.events)
      ∙ ap (λ (l : List Event). reads ++ l) (moved q.events)
      ∙ t.events;
  mark = t.mark;
}
  where
    moved : (l : List Event) → event_in (oldest_of l) ++ drop 1 l ≡ l
    moved [] = refl
    moved (e ∷ l) = refl

-- ## One answer more

pub reads_more : (heard : List Answer) (a : Answer) → events_read (heard ++ (a ∷ [])) ≡ events_read heard ++ event_in a
reads_more [] a = append-nil (event_in a)
reads_more (x ∷ heard) a =
    ap (λ (l : List Event). event_in x ++ l) (reads_more heard a) ∙ sym (append_assoc (event_in x) (events_read heard) (event_in a))

pub count-more : (p : Answer → Bool) (heard : List Answer) (a : Answer) → count p (heard ++ (a ∷ [])) ≡ count p heard + cond (p a) 1 0
count-more p [] a = omega arith
count-more p (x ∷ heard) a =
    let n : count p (heard ++ (a ∷ [])) ≡ count p heard + cond (p a) 1 0 = count-more p heard a in
    omega arith

-- ## Handing out

-- an entry is freed as the message x is handed out, while the others still wait
module _ (x : Message) (others : List Header) where
  abbrev handle : ℕ
  handle = x.header.handle

  -- not one with another handle: the message does not wait in it
  waits-other : (y : HeldEntry) → has_handle handle y ≡ false → waits_in y x.header ≡ false
  waits-other y e = ne_eqb handle y.handle (λ p. eqb-false y.handle handle e (sym p))

  freed-other : (y : HeldEntry) → has_handle handle y ≡ false → freed_by x.header others y ≡ false
  freed-other y e = rw (waits-other y e, and-false (not (is_linked y)))

  freed-none : (l : List HeldEntry) → any (has_handle handle) l ≡ false → select (freed_by x.header others) l ≡ []
  freed-none [] e = refl
  freed-none (y ∷ l) e =
      let n = neither (has_handle handle y) (any (has_handle handle) l) e in
      rw (freed-other y n.0) (freed-none l n.1)

  -- the one with the handle, if it is retired and no other message waits in it
  freed-own : (y : HeldEntry) → y.handle ≡ handle → freed_by x.header others y ≡ (not (is_linked y) && true && not (any (names handle) others))
  freed-own y p = rw (p, eq-eqb handle handle refl)

  -- an entry with another handle is not the one that is linked
  linked-other : (linked : Bool) (y : HeldEntry) (l : List HeldEntry)
      → has_handle handle y ≡ false
      → any (has_handle handle) (cond linked (y ∷ l) l) ≡ any (has_handle handle) l
  linked-other true y l e = rw e
  linked-other false y l e = refl

  -- the target's AUTO_FREE is the ledger's, where the first entry has the handle
  freed-here : (linked waits : Bool) (y : HeldEntry) (l : List HeldEntry)
      → is_linked y ≡ linked
      → any (names handle) others ≡ waits
      → has_handle handle y ≡ true
      → any (has_handle handle) l ≡ false
      → auto_free_event y ≡ auto_free_event x.entry
      → map auto_free_event (select (freed_by x.header others) (y ∷ l)) ≡ auto_free_events (select is_linked (y ∷ l)) x others
  freed-here true waits y l q r h none same =
      rw (freed-own y (eqb-true y.handle handle h), q, h) (ap (map auto_free_event) (freed-none l none))
  freed-here false true y l q r h none same =
      rw (freed-own y (eqb-true y.handle handle h), q, r, part_none (has_handle handle) (part-select is_linked l) none)
      (ap (map auto_free_event) (freed-none l none))
  freed-here false false y l q r h none same =
      rw (freed-own y (eqb-true y.handle handle h), q, r, part_none (has_handle handle) (part-select is_linked l) none)
      (λ k. same k ∷ map auto_free_event (freed-none l none k))

  -- and in every list with distinct handles that holds the message
  freed : (l : List HeldEntry)
      → distinct l ≡ true
      → handle ≡ x.entry.handle
      → All (λ (y : HeldEntry). y.handle ≡ x.entry.handle → y.entry ≡ x.entry.entry) l
      → any (holds x.header) l ≡ true
      → map auto_free_event (select (freed_by x.header others) l) ≡ auto_free_events (select is_linked l) x others
  freed [] d named same e = cc
  freed (y ∷ l) d named same e = by (has_handle handle y) refl (freed l d'.1 named same.1)
    where
      d' : (not (any (has_handle y.handle) l) ≡ true) × (distinct l ≡ true)
      d' = both (not (any (has_handle y.handle) l)) (distinct l) d

      by : (b : Bool) → has_handle handle y ≡ b
          → (any (holds x.header) l ≡ true → map auto_free_event (select (freed_by x.header others) l) ≡ auto_free_events (select is_linked l) x others)
          → map auto_free_event (select (freed_by x.header others) (y ∷ l)) ≡ auto_free_events (select is_linked (y ∷ l)) x others
      by true h rest =
          let p : y.handle ≡ handle = eqb-true y.handle handle h in
          freed-here (is_linked y) (any (names handle) others) y l refl refl h
          (ap (λ (n : ℕ). any (has_handle n) l) (sym p) ∙ not-true (any (has_handle y.handle) l) d'.0)
          (let own : y.entry ≡ x.entry.entry = same.0 (p ∙ named) in rw (own, p ∙ named))
      by false h rest =
          rw (freed-other y h, linked-other (is_linked y) y (select is_linked l) h)
          (rest (rw (waits-other y h) at e))

-- the target looks for the retired entry among its entries, the ledger has it in the message
pub overflow-events : (b : Ledger) (entries : List HeldEntry) (e : Entry) (owner : ℕ) (found left : List ℕ)
    → distinct entries ≡ true
    → select is_linked entries ≡ b.linked
    → All (λ n. Home entries (message_at b.arrivals n)) found
    → every (header_sound entries) (headers_at b found) ≡ true
    → early.hand_out_events e owner entries (headers_at b left) (headers_at b found) ≡ overflow_events b e owner found left
overflow-events b entries e owner [] left d linked homes sound = refl
overflow-events b entries e owner (n ∷ later) left d linked homes sound =
    let x = message_at b.arrivals n in
    let others = headers_at b later ++ headers_at b left in
    let s = both (header_sound entries x.header) (every (header_sound entries) (headers_at b later)) sound in
    let held = (both (any (holds x.header) entries) (lengths_kept x.header) s.0).0 in
    let free : map auto_free_event (select (freed_by x.header others) entries) ≡ auto_free_events b.linked x (headers_at b (later ++ left)) =
    freed x others entries d homes.0.named homes.0.same held
    ∙ (λ k. auto_free_events (linked k) x (sym (map-append (header_at b.arrivals) later left) k)) in
    let rest = overflow-events b entries e owner later left d linked homes.1 s.1 in
    λ k. overflow_event x.header e owner ∷ free k ++ rest k

-- a search closes alike on both
pub no-match-events : (b : Ledger) (e : Entry) (w : Walk ℕ)
    → handling.closing_events e (record { found = headers_at b w.found; left = headers_at b w.left }) ≡ no_match_events e w.found
no-match-events b e w = by w.found
  where
    by : (found : List ℕ) → handling.closing_events e (record { found = headers_at b found; left = headers_at b w.left }) ≡ no_match_events e found
    by [] = rw (and-false (uses_once e))
    by (n ∷ found) = rw (and-true (uses_once e))

-- a look shows the headers found
pub search-events : (b : Ledger) (e : Entry) (found : List ℕ)
    → map (search_event e) (headers_at b found) ≡ map (λ n. search_event e (header_at b.arrivals n)) found
search-events b e found = map-map (search_event e) (header_at b.arrivals) found

-- ## The overflow events of a step

-- the test of an event that the rules issue
abbrev shown : Issued → Bool
shown i = is_overflow i.event

select-append : {A : Type 0} (p : A → Bool) (l m : List A) → select p (l ++ m) ≡ select p l ++ select p m
select-append p [] m = refl
select-append {A} p (x ∷ l) m = by (p x) (select-append p l m)
  where
    by : (b : Bool) → select p (l ++ m) ≡ select p l ++ select p m
        → cond b (x ∷ select p (l ++ m)) (select p (l ++ m)) ≡ cond b (x ∷ select p l) (select p l) ++ select p m
    by true e = ap (λ (r : List A). x ∷ r) e
    by false e = e

shown-both : (l m : List Issued) {s t : List Issued} → select shown l ≡ s → select shown m ≡ t → select shown (l ++ m) ≡ s ++ t
shown-both l m e f = select-append shown l m ∙ (λ k. e k ++ f k)

-- by the kind of an event: PUT and GET do not pass it, PUT_OVERFLOW and GET_OVERFLOW do
abbrev overflows : EventKind → Bool
overflows k = eqb (event_number k) (event_number EventKind.PutOverflow) || eqb (event_number k) (event_number EventKind.GetOverflow)

arrival-hidden : (k : Kind) → overflows (arrival_kind k) ≡ false
arrival-hidden Kind.Put = refl
arrival-hidden Kind.Get = refl

overflow-passes : (k : Kind) → overflows (overflow_kind k) ≡ true
overflow-passes Kind.Put = refl
overflow-passes Kind.Get = refl

-- events that come or do not, as AUTO_FREE and AUTO_UNLINK
cond-hidden : (b : Bool) (l m : List Issued) → select shown l ≡ [] → select shown m ≡ [] → select shown (cond b l m) ≡ []
cond-hidden true l m e f = e
cond-hidden false l m e f = f

-- SEARCH, with or without a match
search-hidden : (b : Ledger) (e : Entry) (found : List ℕ) → select shown (map (λ n. search_event e (header_at b.arrivals n)) found) ≡ []
search-hidden b e [] = refl
search-hidden b e (n ∷ found) = search-hidden b e found

closing-hidden : (e : Entry) (found : List ℕ) → select shown (no_match_events e found) ≡ []
closing-hidden e [] = refl
closing-hidden e (n ∷ found) = cond-hidden (uses_once e) [] (no_match_event e ∷ []) refl refl

-- of what is handed out, one of each message
hand-outs-shown : (b : Ledger) (e : Entry) (owner : ℕ) (found left : List ℕ)
    → select shown (overflow_events b e owner found left) ≡ map (λ n. overflow_event (header_at b.arrivals n) e owner) found
hand-outs-shown b e owner [] left = refl
hand-outs-shown b e owner (n ∷ later) left =
    let x = message_at b.arrivals n in
    let others = headers_at b (later ++ left) in
    let linked = any (has_handle x.header.handle) b.linked in
    rw (overflow-passes (kind_of x.header.kind))
    (ap (λ (l : List Issued). overflow_event x.header e owner ∷ l)
    (shown-both (auto_free_events b.linked x others) (overflow_events b e owner later left)
    (cond-hidden (linked || any (names x.header.handle) others) [] (auto_free_event x.entry ∷ []) refl refl)
    (hand-outs-shown b e owner later left)))

-- they are those of the messages that it hands out
pub overflow-shown : (b : Ledger) (d : Effect) → select (λ i. is_overflow i.event) (issued_by b d) ≡ hand_outs_shown b d
overflow-shown b nothing = refl
overflow-shown b (delivery portal a payload x) =
    rw (arrival-hidden (kind_of (message x portal a).kind))
    (cond-hidden (unlinks x.entry x.local a) (auto_unlink_event x ∷ []) [] refl refl)
overflow-shown b (link e handle) =
    let w = append_walk b e in
    shown-both (walk_events b e handle w) (link_event e handle ∷ []) (hand-outs-shown b e handle w.found w.left) refl ∙ append-nil _
overflow-shown b (taken e) = let w = append_walk b e in hand-outs-shown b e 0 w.found w.left
overflow-shown b (remove _) = refl
overflow-shown b (look e) =
    let found = (search_walk b e).found in
    shown-both (map (λ n. search_event e (header_at b.arrivals n)) found) (no_match_events e found) (search-hidden b e found) (closing-hidden e found)
overflow-shown b (delete e) =
    let w = search_walk b e in
    shown-both (walk_events b e 0 w) (no_match_events e w.found) (hand-outs-shown b e 0 w.found w.left) (closing-hidden e w.found)
    ∙ append-nil _
overflow-shown b (change k f) = refl
