-- Put and get: the ledger chooses the entry that the target chooses, and makes of it what the target makes.
use mathlib.Core.Path.{◌≡◌, refl, ap, sym, ◌∙◌, subst}
use mathlib.Core.Bool.{Bool, true, false, ◌||◌, not, cond}
use mathlib.Core.List.{List, [], ◌∷◌, ◌++◌}
use Rattle.std.specs.Prelude.{Option, None, Some, Result, Ok, Err}
use Prim.Native.Nat.{ℕ, ◌+◌, ◌<◌, ◌≤◌, ◌%◌, ◌^◌}
use native.Mathlib.Omega.{arith}
use borrow.Author.Tests.{eq-eqb}
use lib.Dec.{eqb, ltb}
use lib.ListN.{length, take, length-map, length-append, length-take, length-drop}
use lib.Seq.{take-nil}
use Rattle.matching.specs.Request.{bad_request_argument, arrival_of, offset_used, accepted, place, verdict_on, ack_asked, ack_given}
use Rattle.matching.specs.EarlyMessages.{takes_headers}
use Rattle.matching.specs.Counters.{comm_amount}
use Rattle.matching.specs.declared.layout.Request.{Request}
use Rattle.matching.specs.declared.refusals.Refusal.{Refusal}
use Rattle.matching.specs.declared.request.Arrival.{Arrival}
use Rattle.matching.specs.declared.request.Kind.{Kind}
use Rattle.matching.specs.declared.request.Violation.{Violation}
use Rattle.state.specs.Sizes.{HEADERS}
use Rattle.state.specs.Lists.{any, overwritten}
use Rattle.state.specs.View.{View, entry_at, is_linked, with_registers, zero_entry}
use Rattle.state.specs.Soundness.{entry_sound}
use Rattle.state.specs.Counters.{counted}
use Rattle.state.specs.Registers.{register_at, request_dropped, permission_violated, operation_violated}
use Rattle.state.specs.declared.layout.HeldEntry.{HeldEntry}
use Rattle.state.specs.declared.layout.Counter.{Counter}
use Rattle.state.specs.declared.layout.Registers.{Registers}
use Rattle.matching.proofs.RequestLaws.{place_end}
use Rattle.state.proofs.ListLaws.{cond_cases, every-at}
use Rattle.state.proofs.SoundLaws.{sound-facts, entry-facts, region-fits}
use Rattle.requests.specs.Choice.{choose}
use Rattle.requests.specs.Plan as requests
use Rattle.requests.specs.Plan.{message, plan, entries_after, request_events, bytes_put, bytes_got}
use Rattle.requests.specs.Decision.{has_room, decide_by, decide_on, decide, if_delivered, request_state}
use Rattle.requests.specs.declared.choice.Choice.{Choice}
use Rattle.requests.specs.declared.plan.Plan.{Plan}
use Rattle.requests.specs.declared.decision.Decision.{Decision}
use Rattle.portals.specs.Refusals.{good_arguments, unless_refused}
use Rattle.portals.specs.Answers.{Answer, PRIORITY, OVERFLOW, DROPPED, PERM, OP, refused}
use Rattle.portals.specs.Outcome.{refusal}
use Rattle.portals.specs.Request.{answer_by, request_tests, carried_out, requested, put, get}
use Rattle.portals.specs.Calls.{Call}
use Rattle.portals.specs.Calls as calls
use Rattle.conservation.specs.Steps.{called, elsewhere, count, event_in, says_linked, says_dropped, says_perm, says_op, says_priority, says_overflow}
use Rattle.conservation.specs.Ledger.{counters_after, Ledger, nothing, delivery, chosen, delivery_to, request_effect, call_effect, linked_after, message_of, message_at, hear}
use Rattle.conservation.specs.Runs.{line_elsewhere}
use Rattle.conservation.specs.Answering.{answer_of, answer_on, expected_of_request, register_of, AnswerRight}
use Rattle.conservation.specs.Answering as ledger
use Rattle.conservation.specs.Bytes.{memory_by}
use Rattle.conservation.proofs.Relations.{Home, Related, Follows}
use Rattle.conservation.proofs.AllLaws.{all-imply}
use Rattle.conservation.proofs.ByteLaws.{written_none}
use Rattle.conservation.proofs.NumberLaws.{none_found}
use Rattle.conservation.proofs.EntryLaws.{ChosenAs, priority, overflow, chosen-as, delivered-linked, home-delivered, home-new}
use Rattle.conservation.proofs.EntryLaws as entries
use Rattle.conservation.proofs.MessageLaws.{Messages, Homes, messages-parted, messages-arrive}
use Rattle.conservation.proofs.StepLaws.{Kept, same_count, one_more, same-register, messages, same-messages, same_read, guarded-kept, guarded-answers}
use Rattle.conservation.proofs.EarlySteps.{issued-added}

-- ## The bytes

-- bytes that are written inside leave the length
overwritten-length : (l s : List ℕ) (at : ℕ) → at + length s ≤ length l → length (overwritten l at s) ≡ length l
overwritten-length l s at h = simp (length-append, length-take, length-drop) (omega arith)

-- ## The registers

module _ (rs : Registers) (heard : List Answer) (same : (k : ℕ) → register_at rs k ≡ register_of heard k) where
  -- the register of an answer's kind grows by one, the others stay
  grows : (p : Answer → Bool) (a : Answer) (n : ℕ) → n ≡ count p heard % 2 ^ 64 → p a ≡ true → (n + 1) % 2 ^ 64 ≡ count p (heard ++ (a ∷ [])) % 2 ^ 64
  grows p a n e s = rw (one_more p heard a s, e) (omega arith)

  stays : (p : Answer → Bool) (a : Answer) (n : ℕ) → n ≡ count p heard % 2 ^ 64 → p a ≡ false → n ≡ count p (heard ++ (a ∷ [])) % 2 ^ 64
  stays p a n e s = e ∙ ap (λ c. c % 2 ^ 64) (sym (same_count p heard a s))

  -- each counts its own
  each-counted : (rs' : Registers) (a : Answer) → rs'.dropped ≡ count says_dropped (heard ++ (a ∷ [])) % 2 ^ 64
      → rs'.permission ≡ count says_perm (heard ++ (a ∷ [])) % 2 ^ 64
      → rs'.operation ≡ count says_op (heard ++ (a ∷ [])) % 2 ^ 64
      → (k : ℕ)
      → register_at rs' k ≡ register_of (heard ++ (a ∷ [])) k
  each-counted rs' a dropped permission operation k = go (eqb k 0) (eqb k 1)
    where
      go : (x y : Bool) → cond x rs'.dropped (cond y rs'.permission rs'.operation)
          ≡ count (cond x says_dropped (cond y says_perm says_op)) (heard ++ (a ∷ [])) % 2 ^ 64
      go true y = dropped
      go false true = permission
      go false false = operation

  dropped-counted : (ack k : ℕ) → register_at (request_dropped rs) k ≡ register_of (heard ++ (DROPPED ack ∷ [])) k
  dropped-counted ack =
      each-counted (request_dropped rs) (DROPPED ack) (grows says_dropped (DROPPED ack) rs.dropped (same 0) refl)
      (stays says_perm (DROPPED ack) rs.permission (same 1) refl)
      (stays says_op (DROPPED ack) rs.operation (same 2) refl)

  permission-counted : (ack k : ℕ) → register_at (permission_violated rs) k ≡ register_of (heard ++ (PERM ack ∷ [])) k
  permission-counted ack =
      each-counted (permission_violated rs) (PERM ack) (stays says_dropped (PERM ack) rs.dropped (same 0) refl)
      (grows says_perm (PERM ack) rs.permission (same 1) refl)
      (stays says_op (PERM ack) rs.operation (same 2) refl)

  operation-counted : (ack k : ℕ) → register_at (operation_violated rs) k ≡ register_of (heard ++ (OP ack ∷ [])) k
  operation-counted ack =
      each-counted (operation_violated rs) (OP ack) (stays says_dropped (OP ack) rs.dropped (same 0) refl)
      (stays says_perm (OP ack) rs.permission (same 1) refl)
      (grows says_op (OP ack) rs.operation (same 2) refl)

-- ## A request

-- what a request leaves, and that its answer is the ledger's
record Served (expects : Answer) (b : Ledger) (m : List ℕ) (c : Call) (a : Answer) (v' : View) (m' : List ℕ) : Type 0 where
  kept : Kept b m c a v' m'
  right : a ≡ expects

-- `left`: the memory after the call, by the lent buffer as it is left: of a put that is the memory
module _ (b : Ledger) (v : View) (m : List ℕ) (r : Related b v m) (c : Call) (q : Request) (kind : Kind) (n : ℕ) (payload : List ℕ)
    (effects : (answer : Answer) → call_effect b.linked c answer ≡ request_effect b.linked q.portal (arrival_of q kind n) payload answer)
    (moved : Plan → List ℕ) (lent : List ℕ) (left : List ℕ → List ℕ)
    (untouched : left lent ≡ m)
    (written : (k : ℕ) → left (moved (plan v.entries q.portal (arrival_of q kind n) k))
    ≡ memory_by m (delivery q.portal (arrival_of q kind n) payload (entry_at v.entries k))) where
  abbrev a : Arrival
  a = arrival_of q kind n

  abbrev Serves_as : Answer → View → List ℕ → Type 0
  Serves_as answer v' m' = Served (expected_of_request b q a) b m c answer v' m'

  abbrev Serves : Decision → Type 0
  Serves d = Serves_as (answer_by kind q.ack d) (request_state v d) (left (if_delivered moved lent d))

  -- DROPPED, PERM and OP: only a register moves
  denied : (answer : Answer) (rs : Registers) → event_in answer ≡ []
      → says_linked answer ≡ false
      → request_effect b.linked q.portal a payload answer ≡ nothing
      → ((k : ℕ) → register_at rs k ≡ register_of (b.heard ++ (answer ∷ [])) k)
      → answer ≡ expected_of_request b q a
      → Serves_as answer (with_registers v rs) (left lent)
  denied answer rs event handle effect counted right = record {
    kept = record {
      d = nothing;
      effect = effects answer ∙ effect;
      linked = r.linked;
      messages = same-messages b v m r;
      events = same_read b v m r answer v.queue b.events event r.events;
      last = r.last ∙ sym (same_count says_linked b.heard answer handle);
      registers = counted;
      counters = r.counters;
      memory = untouched;
      size = ap length untouched;
    };
    right = right;
  }

  -- by the ledger's choice
  dropped-by : chosen b.linked q.portal a ≡ None → Serves Decision.Drop
  dropped-by none-chosen =
      denied (DROPPED (ack_asked kind q.ack)) _ refl refl refl
      (dropped-counted v.registers b.heard r.registers (ack_asked kind q.ack))
      (ap (answer_on b a q.ack) (sym none-chosen))

  module _ (k : ℕ) (inside : k < length v.entries) (linked : is_linked (entry_at v.entries k) ≡ true)
      (is : chosen b.linked q.portal a ≡ Some (entry_at v.entries k)) where
    abbrev x : HeldEntry
    x = entry_at v.entries k

    -- the answer on the chosen entry, by the verdict on it and room
    right_by : (verdict : Result Unit Violation) (room : Bool) → verdict_on x.entry a ≡ verdict → has_room v.headers x ≡ room
        → answer_of x a q.ack verdict room ≡ expected_of_request b q a
    right_by verdict room e f =
        let same : has_room v.headers x ≡ ledger.room_for b x =
        ap (λ n. not (takes_headers x.entry) || ltb n HEADERS) (ap length r.headers ∙ length-map b.waiting _) in
        (λ i. answer_of x a q.ack (sym e i) (sym f i)) ∙ ap (answer_of x a q.ack (verdict_on x.entry a)) same ∙ ap (answer_on b a q.ack) (sym is)

    -- its header waits, or it takes none
    delivered-messages : (takes : Bool) → takes_headers x.entry ≡ takes
        → Messages (b.arrivals ++ cond takes (message_of q.portal a payload x ∷ []) [])
        (cond takes (b.waiting ++ (length b.arrivals ∷ [])) b.waiting) (b.handed ++ [])
        (entries_after v.entries (plan v.entries q.portal a k)) (cond takes (v.headers ++ (message x q.portal a ∷ [])) v.headers)
    delivered-messages takes e = go takes
      where
        rest : List HeldEntry
        rest = entries_after v.entries (plan v.entries q.portal a k)

        homes : Homes rest b.arrivals b.waiting
        homes =
            all-imply (λ n. Home v.entries (message_at b.arrivals n)) (λ n. Home rest (message_at b.arrivals n)) b.waiting
            (λ n h. home-delivered v.entries q.portal a k (message_at b.arrivals n) inside h) r.homes

        go : (takes : Bool) → Messages (b.arrivals ++ cond takes (message_of q.portal a payload x ∷ []) [])
            (cond takes (b.waiting ++ (length b.arrivals ∷ [])) b.waiting) (b.handed ++ []) rest
            (cond takes (v.headers ++ (message x q.portal a ∷ [])) v.headers)
        go true =
            messages-arrive (messages b v m r) (message_of q.portal a payload x) rest homes
            (home-new v.entries q.portal a payload k (sound-facts v r.is_sound).handles inside)
        go false = messages-parted (messages b v m r) rest v.headers (none_found b.waiting) homes r.headers

    -- the entry's region lies in the memory
    region : x.entry.start + x.entry.length ≤ length m
    region =
        let s = sound-facts v r.is_sound in
        let f = entry-facts v.size v.last x (every-at (entry_sound v.size v.last) v.entries k zero_entry inside s.entries) in
        rw r.memory (region-fits x.entry v.size f.good)

    -- the bytes are written inside
    written-length : length (memory_by m (delivery q.portal a payload x)) ≡ length m
    written-length =
        let n = region in
        let p = place_end x.entry x.local a in
        let t : length (take (accepted x.entry x.local a) payload) ≤ accepted x.entry x.local a = simp length-take (omega arith) in
        overwritten-length m (take (accepted x.entry x.local a) payload) (place x.entry x.local a) (omega arith)

    -- it counts on the chosen entry
    counted-here : requests.counters_after v.counters (plan v.entries q.portal a k) ≡ counters_after b (delivery q.portal a payload x)
    unfolding message
    counted-here =
        ap (λ (cs : List Counter). counted cs x.entry.counter (comm_amount x.entry.options (accepted x.entry x.local a))) r.counters

    -- PRIORITY or OVERFLOW
    delivered-by : (answer : Answer) → event_in answer ≡ []
        → says_linked answer ≡ false
        → any (λ p. p answer) (says_dropped ∷ says_perm ∷ says_op ∷ []) ≡ false
        → (says_priority answer || says_overflow answer) ≡ true
        → answer ≡ expected_of_request b q a
        → Serves_as answer (request_state v (Decision.Deliver (plan v.entries q.portal a k)))
        (left (moved (plan v.entries q.portal a k)))
    delivered-by answer event handle counts said right = record {
      kept = record {
        d = delivery q.portal a payload x;
        effect = effects answer
            ∙ ap (λ s. cond s (delivery_to q.portal a payload (chosen b.linked q.portal a)) nothing) said
            ∙ ap (delivery_to q.portal a payload) is;
        linked = delivered-linked v.entries q.portal a payload k (sound-facts v r.is_sound).handles inside linked
            ∙ ap (λ l. linked_after l (delivery q.portal a payload x)) r.linked;
        messages = delivered-messages (takes_headers x.entry) refl;
        events = issued-added b v m r answer (request_events (plan v.entries q.portal a k)) _ event refl;
        last = r.last ∙ sym (same_count says_linked b.heard answer handle);
        registers = λ n. r.registers n ∙ sym (same-register b.heard answer counts n);
        counters = counted-here;
        memory = written k;
        size = ap length (written k) ∙ written-length;
      };
      right = right;
    }

    granted : answer_of x a q.ack (Ok tt) true ≡ expected_of_request b q a → Serves (Decision.Deliver (plan v.entries q.portal a k))
    unfolding message
    granted right =
        let n = accepted x.entry x.local a in
        let o = offset_used x.entry x.local a in
        let ack = ack_given x.entry.options kind q.ack in
        let p = plan v.entries q.portal a k in
        cond_cases (λ answer. Serves_as answer (request_state v (Decision.Deliver p)) (left (moved p)))
        (eqb x.entry.list 0) (PRIORITY n o ack) (OVERFLOW n o ack)
        (λ first. delivered-by (PRIORITY n o ack) refl refl refl refl (ap (λ y. cond y (PRIORITY n o ack) (OVERFLOW n o ack)) (sym first) ∙ right))
        (λ second. delivered-by (OVERFLOW n o ack) refl refl refl refl (ap (λ y. cond y (PRIORITY n o ack) (OVERFLOW n o ack)) (sym second) ∙ right))

    chosen_by : (verdict : Result Unit Violation) (room : Bool) → verdict_on x.entry a ≡ verdict → has_room v.headers x ≡ room
        → Serves (decide_by verdict room (plan v.entries q.portal a k))
    chosen_by (Err Violation.Permission) room e f =
        denied (PERM (ack_asked kind q.ack)) _ refl refl refl
        (permission-counted v.registers b.heard r.registers (ack_asked kind q.ack)) (right_by (Err Violation.Permission) room e f)
    chosen_by (Err Violation.Operation) room e f =
        denied (OP (ack_asked kind q.ack)) _ refl refl refl
        (operation-counted v.registers b.heard r.registers (ack_asked kind q.ack)) (right_by (Err Violation.Operation) room e f)
    chosen_by (Ok granted) false e f =
        denied (DROPPED (ack_asked kind q.ack)) _ refl refl refl
        (dropped-counted v.registers b.heard r.registers (ack_asked kind q.ack)) (right_by (Ok granted) false e f)
    chosen_by (Ok tt) true e f = granted (right_by (Ok tt) true e f)

  -- whatever is decided
  decided-served : Serves (decide v.entries v.headers q.portal a)
  unfolding decide
  decided-served = go (choose v.entries q.portal a) (chosen b.linked q.portal a) refl
      (subst (λ l. ChosenAs v.entries q.portal a (choose v.entries q.portal a) (chosen l q.portal a)) r.linked (chosen-as v.entries q.portal a))
    where
      go : (choice : Choice) (own : Option HeldEntry) → chosen b.linked q.portal a ≡ own → ChosenAs v.entries q.portal a choice own
          → Serves (decide_on v.entries v.headers q.portal a choice)
      go _ _ e (priority k inside linked) = chosen_by k inside linked e (verdict_on (entry_at v.entries k).entry a) (has_room v.headers (entry_at v.entries k)) refl refl
      go _ _ e (overflow k inside linked) = chosen_by k inside linked e (verdict_on (entry_at v.entries k).entry a) (has_room v.headers (entry_at v.entries k)) refl refl
      go _ _ e entries.nothing = dropped-by e

  -- behind the request's tests; the memory is the one beside the state
  kept-by : Kept b m c (requested v (length m) q kind n moved lent).answer (requested v (length m) q kind n moved lent).state
      (left (requested v (length m) q kind n moved lent).buffer)
  kept-by = guarded-kept b v m r c left lent (request_tests v (length m) q n) _ untouched decided-served.kept

  answered-by : (requested v (length m) q kind n moved lent).answer
      ≡ unless_refused refused (good_arguments (bad_request_argument q n) ∷ []) (expected_of_request b q a)
  answered-by =
      guarded-answers v lent (request_tests v (length m) q n) _
      ∙ (λ i. unless_refused refused
      (record { passed = eq-eqb (length m) v.size r.memory i; refusal = Refusal.BadMemory } ∷ good_arguments (bad_request_argument q n) ∷ [])
      (decided-served.right i))

module _ (b : Ledger) (v : View) (m : List ℕ) (r : Related b v m) (q : Request) where
  module _ (payload : List ℕ) where
    pub put-kept : Kept b m (calls.put q payload) (put v m q payload).answer (put v m q payload).state (put v m q payload).buffer
    unfolding put message
    put-kept =
        kept-by b v m r (calls.put q payload) q Kind.Put (length payload) payload (λ answer. refl) (bytes_put m payload) m (λ memory. memory) refl
        (λ k. refl)

    pub put-answered : AnswerRight (length m) b (called (calls.put q payload) (put v m q payload).answer)
    unfolding put message
    put-answered =
        answered-by b v m r (calls.put q payload) q Kind.Put (length payload) payload (λ answer. refl) (bytes_put m payload) m (λ memory. memory) refl
        (λ k. refl)

  module _ (reply : List ℕ) where
    -- a get writes nothing
    unwritten : (k : ℕ) → m ≡ memory_by m (delivery q.portal (arrival_of q Kind.Get (length reply)) [] (entry_at v.entries k))
    unwritten k =
        let x = entry_at v.entries k in
        let a = arrival_of q Kind.Get (length reply) in
        sym (ap (overwritten m (place x.entry x.local a)) (take-nil (accepted x.entry x.local a)) ∙ written_none m (place x.entry x.local a))

    pub get-kept : Kept b m (calls.get q reply) (get v m q reply).answer (get v m q reply).state m
    unfolding get
    get-kept =
        kept-by b v m r (calls.get q reply) q Kind.Get (length reply) [] (λ answer. refl) (bytes_got m reply) reply (λ left. m) refl unwritten

    pub get-answered : AnswerRight (length m) b (called (calls.get q reply) (get v m q reply).answer)
    unfolding get
    get-answered =
        answered-by b v m r (calls.get q reply) q Kind.Get (length reply) [] (λ answer. refl) (bytes_got m reply) reply (λ left. m) refl unwritten

  -- ## Lent another memory

  -- a memory of another length is refused, before all else
  another-memory : (kind : Kind) (n size : ℕ) (moved : Plan → List ℕ) (lent : List ℕ) → eqb size (length m) ≡ false
      → requested v size q kind n moved lent ≡ refusal v lent Refusal.BadMemory
  another-memory kind n size moved lent e =
      ap (λ x. unless_refused (refusal v lent) (record { passed = x; refusal = Refusal.BadMemory } ∷ good_arguments (bad_request_argument q n) ∷ [])
      (carried_out v q kind moved lent (decide v.entries v.headers q.portal (arrival_of q kind n))))
      (ap (eqb size) (sym r.memory) ∙ e)

  pub put-another : (payload lent : List ℕ) → eqb (length lent) (length m) ≡ false → put v lent q payload ≡ refusal v lent Refusal.BadMemory
  unfolding put
  put-another payload lent e = another-memory Kind.Put (length payload) (length lent) _ lent e

  pub get-another : (reply lent : List ℕ) → eqb (length lent) (length m) ≡ false → get v lent q reply ≡ refusal v reply Refusal.BadMemory
  unfolding get
  get-another reply lent e = another-memory Kind.Get (length reply) (length lent) _ reply e

  pub elsewhere-follows : (lent : List ℕ) → eqb (length lent) (length m) ≡ false → (answer : Answer) → answer ≡ refused Refusal.BadMemory
      → Follows b m (line_elsewhere m lent answer) v m
  elsewhere-follows lent other answer e =
      let a = refused Refusal.BadMemory in
      let s = same-messages b v m r in
      record {
        related = subst (λ a. Related (hear b (elsewhere (length lent) a)) v m) (sym e) (record {
          is_sound = r.is_sound;
          memory = r.memory;
          linked = r.linked;
          headers = s.headers;
          homes = s.homes;
          numbers = s.numbers;
          events = same_read b v m r a v.queue b.events refl r.events;
          last = r.last ∙ sym (same_count says_linked b.heard a refl);
          registers = λ k. r.registers k ∙ sym (same-register b.heard a refl k);
          counters = r.counters;
        });
        right = record { answer = (other, e); overflow = refl };
        memory = (refl, tt);
      }
