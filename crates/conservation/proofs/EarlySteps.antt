-- Append, unlink and search: the ledger's walk is the target's.
use mathlib.Core.Path.{◌≡◌, refl, ap, sym, ◌∙◌, subst}
use mathlib.Core.Bool.{Bool, true, false, ◌&&◌, ◌||◌, not, cond}
use mathlib.Core.List.{List, [], ◌∷◌, ◌++◌, map}
use Prim.Native.Nat.{ℕ, ◌+◌, ◌<◌, ◌≤◌}
use native.Mathlib.Omega.{arith}
use lib.Dec.{eqb, ltb}
use lib.ListN.{length, length-map}
use Rattle.matching.specs.Refusals.{first_bad}
use Rattle.matching.specs.Entry.{bad_entry_argument}
use Rattle.matching.specs.Counters.{overflow_amount}
use Rattle.matching.specs.declared.layout.Entry.{Entry}
use Rattle.matching.specs.declared.refusals.Refusal.TheVariants as Refusal
use Rattle.matching.specs.declared.refusals.BadArgument.TheVariants as BadArgument
use Rattle.state.specs.Lists.{any, every, select, sum_of, without_first, is_empty}
use Rattle.state.specs.View.{View, is_linked, is_linked_as, has_handle}
use Rattle.state.specs.Soundness.{keeps_slot, header_sound, names}
use Rattle.state.specs.Sizes.{SLOTS, LAST_HANDLE}
use Rattle.state.specs.Counters.{counted}
use Rattle.state.specs.Events.{Issued, link_event, post_all}
use Rattle.state.specs.declared.layout.HeldEntry.{HeldEntry}
use Rattle.state.specs.declared.layout.Header.{Header}
use Rattle.state.specs.declared.layout.Counter.{Counter}
use Rattle.state.proofs.ListLaws.{Part, nothing, keeps, leaves, part-every, part-select, part-without_first, cond_cases}
use Rattle.state.proofs.SoundLaws.{sound-facts}
use Rattle.early.specs.Walk.{Walk, walk, no_walk, uses_once, fits_header, found_once}
use Rattle.early.specs.Walk as early
use Rattle.early.specs.HandOut as HandOut
use Rattle.early.specs.Handling as handling
use Rattle.early.specs.Handling.{new_entry, handled}
use Rattle.early.specs.declared.handling.Handling.{Handling}
use Rattle.portals.specs.Refusals.{good_arguments, unless_refused}
use Rattle.portals.specs.Answers.{Answer, LINKED, TAKEN, DONE, SEARCHED, refused}
use Rattle.portals.specs.Outcome.{Outcome}
use Rattle.portals.specs.EarlyMessages.{taken_by, append_by, appended, append_tests, append, unlink_tests, unlinked, unlink, searched, search_tests, search}
use Rattle.portals.specs.Calls as calls
use Rattle.conservation.specs.Steps.{called, count, event_in, events_read, says_linked}
use Rattle.conservation.specs.Ledger.{overflow_counted, Ledger, link, taken, remove, look, delete, without, header_at, message_at, search_walk, append_walk, walk_events, add_all, headers_at}
use Rattle.conservation.specs.Answering.{slots_taken, expected_of_append, AnswerRight}
use Rattle.conservation.proofs.Relations.{Home, SameEvents, Related}
use Rattle.conservation.proofs.AllLaws.{all-part, all-imply, all_both}
use Rattle.conservation.proofs.NumberLaws.{Parted, none_found, walk-parted, walk-map, parted-left, parted-found}
use Rattle.conservation.proofs.SlotLaws.{slots-taken}
use Rattle.conservation.proofs.EntryLaws.{kept-linked, linked-last, unlinked-linked, home-part, home-last}
use Rattle.conservation.proofs.EventLaws.{added-all, overflow-events, no-match-events, search-events}
use Rattle.conservation.proofs.MessageLaws.{Messages, Homes, messages-parted, handles-given}
use Rattle.conservation.proofs.StepLaws.{Kept, same_count, one_more, same-register, messages, same-messages, same_read, guarded-kept, guarded-answers}

part-map : {A B : Type 0} (f : A → B) {l all : List A} → Part l all → Part (map f l) (map f all)
part-map f nothing = nothing
part-map f (keeps p) = keeps (part-map f p)
part-map f (leaves p) = leaves (part-map f p)

empty-map : {A B : Type 0} (f : A → B) (l : List A) → is_empty (map f l) ≡ is_empty l
empty-map f [] = refl
empty-map f (x ∷ l) = refl

sum-map : {A B : Type 0} (g : A → B) (f : B → ℕ) (l : List A) → sum_of f (map g l) ≡ sum_of (λ x. f (g x)) l
sum-map g f [] = refl
sum-map g f (x ∷ l) = ap (λ n. f (g x) + n) (sum-map g f l)

module _ (b : Ledger) (v : View) (m : List ℕ) (r : Related b v m) where
  -- ## Unlink

  unlinked-kept : (handle : ℕ) → Kept b m (calls.unlink handle) (unlinked v handle).answer (unlinked v handle).state m
  unlinked-kept handle =
      let rest = without_first (is_linked_as handle) v.entries in
      record {
        d = remove handle;
        effect = refl;
        linked = unlinked-linked v.entries handle (sound-facts v r.is_sound).handles ∙ ap (without handle) r.linked;
        messages = messages-parted (messages b v m r) rest v.headers (none_found b.waiting)
            (all-imply (λ n. Home v.entries (message_at b.arrivals n)) (λ n. Home rest (message_at b.arrivals n)) b.waiting
            (λ n h. home-part (part-without_first (is_linked_as handle) v.entries) h) r.homes)
            r.headers;
        events = same_read b v m r DONE v.queue b.events refl r.events;
        last = r.last ∙ sym (same_count says_linked b.heard DONE refl);
        registers = λ k. r.registers k ∙ sym (same-register b.heard DONE refl k);
        counters = r.counters;
        memory = refl;
        size = refl;
      }

  pub unlink-kept : (handle : ℕ) → Kept b m (calls.unlink handle) (unlink v handle).answer (unlink v handle).state m
  unfolding unlink
  unlink-kept handle =
      guarded-kept b v m r (calls.unlink handle) (λ _. m) tt (unlink_tests v handle) (unlinked v handle) refl (unlinked-kept handle)

  -- the ledger's linked entries have a handle where the target's have it
  linked-as : (handle : ℕ) (entries : List HeldEntry) → any (is_linked_as handle) entries ≡ any (has_handle handle) (select is_linked entries)
  linked-as handle [] = refl
  linked-as handle (x ∷ l) = go (is_linked x) (linked-as handle l)
    where
      go : (c : Bool) → any (is_linked_as handle) l ≡ any (has_handle handle) (select is_linked l)
          → ((c && has_handle handle x) || any (is_linked_as handle) l) ≡ any (has_handle handle) (cond c (x ∷ select is_linked l) (select is_linked l))
      go true rest = ap (λ y. has_handle handle x || y) rest
      go false rest = rest

  pub unlink-answered : (handle : ℕ) → AnswerRight (length m) b (called (calls.unlink handle) (unlink v handle).answer)
  unfolding unlink
  unlink-answered handle =
      guarded-answers v tt (unlink_tests v handle) (unlinked v handle)
      ∙ (λ i. unless_refused refused
      (good_arguments (first_bad (record { passed = (linked-as handle v.entries ∙ ap (any (has_handle handle)) r.linked) i; argument = BadArgument.Handle } ∷ []))
      ∷ record { passed = not (any (names handle) (r.headers i)); refusal = Refusal.InUse }
      ∷ []) DONE)

  -- ## The walk

  -- a walk over numbers, as one over their headers
  abbrev shown : Walk ℕ → Walk Header
  shown w = record { found = headers_at b w.found; left = headers_at b w.left }

  search-walk : (e : Entry) → early.walk_for e v.headers ≡ shown (search_walk b e)
  unfolding early.walk_for
  search-walk e = ap (walk (uses_once e) (fits_header e)) r.headers ∙ walk-map (header_at b.arrivals) (fits_header e) (uses_once e) b.waiting

  append-walk : (e : Entry) → taken_by e v.headers ≡ shown (append_walk b e)
  append-walk e = go (eqb e.list 0)
    where
      go : (c : Bool) → cond c (early.walk_for e v.headers) (no_walk v.headers) ≡ shown (cond c (search_walk b e) (no_walk b.waiting))
      go true = search-walk e
      go false = ap no_walk r.headers

  search-parted : (e : Entry) → Parted (search_walk b e).found (search_walk b e).left b.waiting
  search-parted e = walk-parted (uses_once e) (λ n. fits_header e (header_at b.arrivals n)) b.waiting

  append-parted : (e : Entry) → Parted (append_walk b e).found (append_walk b e).left b.waiting
  append-parted e =
      cond_cases (λ w. Parted w.found w.left b.waiting) (eqb e.list 0) (search_walk b e) (no_walk b.waiting)
      (λ _. search-parted e) (λ _. none_found b.waiting)

  once-found : (e : Entry) (w : Walk ℕ) → found_once e (shown w) ≡ (uses_once e && not (is_empty w.found))
  once-found e w = ap (λ x. uses_once e && not x) (empty-map (header_at b.arrivals) w.found)

  -- ## What is handed out

  module _ (e : Entry) (w : Walk ℕ) (p : Parted w.found w.left b.waiting) where
    -- the entries that keep their slot
    abbrev slots : List HeldEntry
    slots = select (keeps_slot (headers_at b w.left)) v.entries

    homes-left : Homes slots b.arrivals w.left
    homes-left =
        all-imply (λ n. Home v.entries (message_at b.arrivals n)) (λ n. Home slots (message_at b.arrivals n)) w.left
        (λ n h. home-part (part-select (keeps_slot (headers_at b w.left)) v.entries) h)
        (all-part (λ n. Home v.entries (message_at b.arrivals n)) (parted-left p) r.homes)

    messages-left : Messages (b.arrivals ++ []) w.left (b.handed ++ w.found) slots (headers_at b w.left)
    messages-left = messages-parted (messages b v m r) slots (headers_at b w.left) p homes-left refl

    messages-linked : (handle : ℕ) → v.last < handle
        → Messages (b.arrivals ++ []) w.left (b.handed ++ w.found) (slots ++ (new_entry e handle ∷ [])) (headers_at b w.left)
    messages-linked handle above =
        messages-parted (messages b v m r) (slots ++ (new_entry e handle ∷ [])) (headers_at b w.left) p
        (all_both (λ n. Home slots (message_at b.arrivals n)) (λ n. (message_at b.arrivals n).entry.handle ≤ v.last)
        (λ n. Home (slots ++ (new_entry e handle ∷ [])) (message_at b.arrivals n)) w.left
        (λ n h given. home-last slots (message_at b.arrivals n) e handle (omega arith) h)
        homes-left
        (all-part (λ n. (message_at b.arrivals n).entry.handle ≤ v.last) (parted-left p)
        (handles-given (messages b v m r) v.size v.last (sound-facts v r.is_sound).entries (sound-facts v r.is_sound).headers)))
        refl

    -- the events of handing out
    handed-events : (owner : ℕ) → HandOut.hand_out_events e owner v.entries (headers_at b w.left) (headers_at b w.found) ≡ walk_events b e owner w
    handed-events owner =
        overflow-events b v.entries e owner w.found w.left (sound-facts v r.is_sound).handles r.linked
        (all-part (λ n. Home v.entries (message_at b.arrivals n)) (parted-found p) r.homes)
        (part-every (header_sound v.entries) (part-map (header_at b.arrivals) (parted-found p))
        (subst (λ hs. every (header_sound v.entries) hs ≡ true) r.headers (sound-facts v r.is_sound).headers))

  -- events are issued, and the answer reads none
  pub issued-added : (a : Answer) (issued ours : List Issued) → event_in a ≡ [] → issued ≡ ours
      → SameEvents (events_read (b.heard ++ (a ∷ []))) (post_all v.queue issued) (add_all (length (events_read b.heard)) b.events ours)
  issued-added a issued ours e same =
      subst (λ is. SameEvents (events_read (b.heard ++ (a ∷ []))) (post_all v.queue is) (add_all (length (events_read b.heard)) b.events ours)) (sym same)
      (same_read b v m r a (post_all v.queue ours) _ e (added-all r.events ours))

  -- ## Append

  -- what is taken counts
  counted-found : (e : Entry) → handling.overflow_counted v.counters e (shown (append_walk b e)) ≡ overflow_counted b e
  counted-found e =
      ap (λ (cs : List Counter). counted cs e.counter (sum_of (λ (h : Header). overflow_amount e.options h.accepted) (headers_at b (append_walk b e).found)))
      r.counters
      ∙ ap (counted b.counters e.counter) (sum-map (header_at b.arrivals) (λ h. overflow_amount e.options h.accepted) (append_walk b e).found)

  module _ (e : Entry) where
    abbrev AppendKept : Outcome View Unit → Type 0
    AppendKept o = Kept b m (calls.append e) o.answer o.state m

    append-by : (taken : Bool) → found_once e (shown (append_walk b e)) ≡ taken → AppendKept (append_by taken v e (shown (append_walk b e)))
    unfolding handled
    append-by true f =
        let w = append_walk b e in
        let p = append-parted e in
        record {
          d = taken e;
          effect = refl;
          linked = kept-linked (headers_at b w.left) v.entries ∙ r.linked;
          messages = messages-left e w p;
          events = issued-added TAKEN _ _ refl (handed-events e w p 0);
          last = r.last ∙ sym (same_count says_linked b.heard TAKEN refl);
          registers = λ k. r.registers k ∙ sym (same-register b.heard TAKEN refl k);
          counters = counted-found e;
          memory = refl;
          size = refl;
        }
    append-by false f =
        let w = append_walk b e in
        let p = append-parted e in
        let h = v.last + 1 in
        record {
          d = link e h;
          effect = refl;
          linked = linked-last (slots e w p) e h ∙ ap (λ l. l ++ (new_entry e h ∷ [])) (kept-linked (headers_at b w.left) v.entries ∙ r.linked);
          messages = messages-linked e w p h (omega arith);
          events = issued-added (LINKED h) _ _ refl (ap (λ is. is ++ (link_event e h ∷ [])) (handed-events e w p h));
          last = ap (λ n. n + 1) r.last ∙ sym (one_more says_linked b.heard (LINKED h) refl);
          registers = λ k. r.registers k ∙ sym (same-register b.heard (LINKED h) refl k);
          counters = counted-found e;
          memory = refl;
          size = refl;
        }

    -- USE_ONCE with a fit, or else the next handle
    appended-answer : (appended v e (taken_by e v.headers)).answer ≡ expected_of_append b e
    appended-answer =
        ap (λ w. (appended v e w).answer) (append-walk e)
        ∙ by (found_once e (shown (append_walk b e)))
        ∙ ap (λ x. cond x TAKEN (LINKED (count says_linked b.heard + 1))) (once-found e (append_walk b e))
      where
        by : (taken : Bool) → (append_by taken v e (shown (append_walk b e))).answer ≡ cond taken TAKEN (LINKED (count says_linked b.heard + 1))
        by true = refl
        by false = ap (λ n. LINKED (n + 1)) r.last

    pub append-answered : AnswerRight (length m) b (called (calls.append e) (append v e).answer)
    unfolding append
    append-answered =
        guarded-answers v tt (append_tests v e) (appended v e (taken_by e v.headers))
        ∙ (λ i. unless_refused refused
        (good_arguments (bad_entry_argument e (sym r.memory i))
        ∷ record { passed = ltb (slots i) SLOTS && ltb (r.last i) LAST_HANDLE; refusal = Refusal.NoSpace }
        ∷ []) (appended-answer i))
      where
        slots : length v.entries ≡ slots_taken b.linked (headers_at b b.waiting)
        slots =
            let s = sound-facts v r.is_sound in
            slots-taken v.entries v.headers s.handles s.headers s.retired ∙ (λ i. slots_taken (r.linked i) (r.headers i))

    pub append-kept : AppendKept (append v e)
    unfolding append
    append-kept =
        guarded-kept b v m r (calls.append e) (λ _. m) tt (append_tests v e) _ refl
        (subst (λ w. AppendKept (append_by (found_once e w) v e w)) (sym (append-walk e)) (append-by (found_once e (shown (append_walk b e))) refl))

  -- ## Search

  module _ (e : Entry) where
    abbrev SearchKept : Outcome View Unit → Type 0
    SearchKept o = Kept b m (calls.search e) o.answer o.state m

    found-count : length (headers_at b (search_walk b e).found) ≡ length (search_walk b e).found
    found-count = length-map (search_walk b e).found (header_at b.arrivals)

    search-by : (looks : Bool) → eqb e.list 0 ≡ looks
        → Kept b m (calls.search e) (SEARCHED (length (headers_at b (search_walk b e).found)))
        (handled v e (shown (search_walk b e)) (cond looks Handling.Look Handling.Delete)) m
    unfolding handled
    search-by true f =
        let w = search_walk b e in
        let a = SEARCHED (length (headers_at b w.found)) in
        record {
          d = look e;
          effect = rw f refl;
          linked = r.linked;
          messages = same-messages b v m r;
          events = issued-added a _ _ refl (λ i. search-events b e w.found i ++ no-match-events b e w i);
          last = r.last ∙ sym (same_count says_linked b.heard a refl);
          registers = λ k. r.registers k ∙ sym (same-register b.heard a refl k);
          counters = r.counters;
          memory = refl;
          size = refl;
        }
    search-by false f =
        let w = search_walk b e in
        let p = search-parted e in
        let a = SEARCHED (length (headers_at b w.found)) in
        record {
          d = delete e;
          effect = rw f refl;
          linked = kept-linked (headers_at b w.left) v.entries ∙ r.linked;
          messages = messages-left e w p;
          events = issued-added a _ _ refl (λ i. handed-events e w p 0 i ++ no-match-events b e w i);
          last = r.last ∙ sym (same_count says_linked b.heard a refl);
          registers = λ k. r.registers k ∙ sym (same-register b.heard a refl k);
          counters = r.counters;
          memory = refl;
          size = refl;
        }

    pub search-answered : AnswerRight (length m) b (called (calls.search e) (search v e).answer)
    unfolding search
    search-answered =
        guarded-answers v tt (search_tests v e) (searched v e (early.walk_for e v.headers))
        ∙ (λ i. unless_refused refused (good_arguments (bad_entry_argument e (sym r.memory i)) ∷ [])
        (SEARCHED ((ap (λ (w : Walk Header). length w.found) (search-walk e) ∙ found-count) i)))

    pub search-kept : SearchKept (search v e)
    unfolding search
    search-kept =
        guarded-kept b v m r (calls.search e) (λ _. m) tt (search_tests v e) _ refl
        (subst (λ w. SearchKept (searched v e w)) (sym (search-walk e)) (search-by (eqb e.list 0) refl))
