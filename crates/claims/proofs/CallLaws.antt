-- The laws of all calls: soundness is kept, the size is fixed, a refusal changes nothing, handles count up.
use mathlib.Core.Path.{◌≡◌, refl}
use mathlib.Core.Bool.{Bool, true, false}
use mathlib.Core.List.{List, []}
use Prim.Native.Nat.{ℕ, ◌<◌}
use borrow.Author.Tests.{ltb-true}
use lib.Dec.{ltb, eqb}
use lib.ListN.{length}
use Rattle.matching.specs.declared.layout.Entry.{Entry}
use Rattle.matching.specs.declared.layout.Request.{Request}
use Rattle.matching.specs.Request.{arrival_of}
use Rattle.matching.specs.declared.request.Kind.{Kind}
use Rattle.state.specs.Sizes.{SLOTS, LAST_HANDLE}
use Rattle.state.specs.View.{View}
use Rattle.state.specs.declared.layout.Header.{Header}
use Rattle.state.specs.declared.layout.CounterChange.{CounterChange}
use Rattle.state.proofs.ListLaws.{both, cond_cases}
use Rattle.state.proofs.SoundLaws.{Sound, sound-facts, facts-sound}
use Rattle.requests.specs.Decision.{decide, request_state}
use Rattle.requests.specs.declared.plan.Plan.{Plan}
use Rattle.requests.specs.declared.decision.Decision.{Decision}
use Rattle.requests.proofs.RequestKept.{none-beyond}
use Rattle.early.specs.Walk.{Walk, found_once}
use Rattle.early.specs.Handling.{last_after, handled}
use Rattle.early.specs.declared.handling.Handling.TheVariants as Handling
use Rattle.portals.specs.Refusals.{Condition}
use Rattle.portals.specs.Answers.{Answer, is_refused}
use Rattle.portals.specs.Outcome.{Outcome, refusal, guarded}
use Rattle.portals.specs.Making.{new}
use Rattle.portals.specs.EventRead.{read_event}
use Rattle.portals.specs.CounterCalls.{counter_tests, set_counter, increment}
use Rattle.portals.specs.Request.{request_tests, requested, put, get}
use Rattle.portals.specs.EarlyMessages.{append_by, taken_by, append_tests, append, unlink_tests, unlink, search_tests, search}
use Rattle.portals.specs.Calls.{Call, state_after, answer_to}
use Rattle.portals.specs.Calls as calls
use Rattle.portals.proofs.GuardLaws.{guard-cases}
use Rattle.portals.proofs.RequestCalls.{decision-answers, put-sound, get-sound}
use Rattle.portals.proofs.EarlyKept.{append-sound, unlink-sound, search-sound}
use Rattle.portals.proofs.PartsKept.{new-sound, set-sound, increment-sound, read-event-sound, oldest-answers}
use Rattle.claims.specs.Laws.{CallLaws, is_append, Handles, linked, taken, refused}

-- ## A refusal changes nothing, and the memory's size is fixed

pub record Orderly {B : Type 0} (v : View) (b : B) (o : Outcome View B) : Type 0 where
  pub state : is_refused o.answer ≡ true → o.state ≡ v
  pub buffer : is_refused o.answer ≡ true → o.buffer ≡ b
  pub fixed : o.state.size ≡ v.size

-- so it is where what the call does is no refusal and keeps the size
done-orderly : {B : Type 0} (v : View) (b : B) (does : Outcome View B)
    → is_refused does.answer ≡ false
    → does.state.size ≡ v.size
    → Orderly v b does
done-orderly v b does answers size = record {
  state = λ e. cc;
  buffer = λ e. cc;
  fixed = size;
}

-- behind its tests too
guarded-orderly : {B : Type 0} (v : View) (b : B) (tests : List Condition) (does : Outcome View B)
    → is_refused does.answer ≡ false
    → does.state.size ≡ v.size
    → Orderly v b (guarded v b tests does)
guarded-orderly v b tests does answers size =
    guard-cases (Orderly v b) (refusal v b) tests does
    (λ r. record { state = λ e. refl; buffer = λ e. refl; fixed = refl })
    (λ passed. done-orderly v b does answers size)

module _ (v : View) where
  append-by-answers : (is_taken : Bool) (e : Entry) (w : Walk Header) → is_refused (append_by is_taken v e w).answer ≡ false
  append-by-answers true e w = refl
  append-by-answers false e w = refl

  append-by-size : (is_taken : Bool) (e : Entry) (w : Walk Header) → (append_by is_taken v e w).state.size ≡ v.size
  unfolding handled
  append-by-size true e w = refl
  append-by-size false e w = refl

  append-orderly : (e : Entry) → Orderly v tt (append v e)
  unfolding append
  append-orderly e =
      let w = taken_by e v.headers in
      guarded-orderly v tt (append_tests v e) _ (append-by-answers (found_once e w) e w) (append-by-size (found_once e w) e w)

  unlink-orderly : (handle : ℕ) → Orderly v tt (unlink v handle)
  unfolding unlink
  unlink-orderly handle = guarded-orderly v tt (unlink_tests v handle) _ refl refl

  search-orderly : (e : Entry) → Orderly v tt (search v e)
  unfolding search handled
  search-orderly e = guarded-orderly v tt (search_tests v e) _ refl refl

  -- whatever is decided of a request, it keeps the size and the last handle
  decided-keeps : (d : Decision) → ((request_state v d).size ≡ v.size) × ((request_state v d).last ≡ v.last)
  decided-keeps Decision.Drop = (refl, refl)
  decided-keeps (Decision.Deny violation) = (refl, refl)
  decided-keeps (Decision.Deliver p) = (refl, refl)

  requested-orderly : (size : ℕ) (q : Request) (kind : Kind) (n : ℕ) (moved : Plan → List ℕ) (lent : List ℕ)
      → Orderly v lent (requested v size q kind n moved lent)
  requested-orderly size q kind n moved lent =
      let d = decide v.entries v.headers q.portal (arrival_of q kind n) in
      guarded-orderly v lent (request_tests v size q n) _ (decision-answers kind q.ack d) (decided-keeps d).0

  put-orderly : (memory : List ℕ) (q : Request) (payload : List ℕ) → Orderly v memory (put v memory q payload)
  unfolding put
  put-orderly memory q payload = requested-orderly (length memory) q Kind.Put (length payload) _ memory

  get-orderly : (memory : List ℕ) (q : Request) (reply : List ℕ) → Orderly v reply (get v memory q reply)
  unfolding get
  get-orderly memory q reply = requested-orderly (length memory) q Kind.Get (length reply) _ reply

  read-event-orderly : Orderly v tt (read_event v)
  unfolding read_event
  read-event-orderly = guarded-orderly v tt [] _ (oldest-answers v.queue.events) refl

  set-orderly : (x : CounterChange) → Orderly v tt (set_counter v x)
  unfolding set_counter
  set-orderly x = guarded-orderly v tt (counter_tests x.counter) _ refl refl

  increment-orderly : (x : CounterChange) → Orderly v tt (increment v x)
  unfolding increment
  increment-orderly x = guarded-orderly v tt (counter_tests x.counter) _ refl refl

-- ## Every call

-- a state, the answer of a call on it, and the state that the call leaves
record Lawful (v : View) (a : Answer) (s : View) : Type 0 where
  sound : Sound v → Sound s
  keeps : is_refused a ≡ true → s ≡ v
  fixed : s.size ≡ v.size

lawful : {B : Type 0} (v : View) (b : B) (o : Outcome View B) → (Sound v → Sound o.state) → Orderly v b o → Lawful v o.answer o.state
lawful v b o s h = record { sound = s; keeps = h.state; fixed = h.fixed }

reading : (v : View) (a : Answer) → Lawful v a v
reading v a = record { sound = λ s. s; keeps = λ e. refl; fixed = refl }

call-lawful : (v : View) (memory : List ℕ) (c : Call) → Lawful v (answer_to v memory c) (state_after v memory c)
call-lawful v memory (calls.append e) = lawful v tt (append v e) (append-sound v e) (append-orderly v e)
call-lawful v memory (calls.unlink handle) = lawful v tt (unlink v handle) (unlink-sound v handle) (unlink-orderly v handle)
call-lawful v memory (calls.search e) = lawful v tt (search v e) (search-sound v e) (search-orderly v e)
call-lawful v memory (calls.put q payload) =
    lawful v memory (put v memory q payload) (put-sound v memory q payload) (put-orderly v memory q payload)
call-lawful v memory (calls.get q reply) =
    lawful v reply (get v memory q reply) (get-sound v memory q reply) (get-orderly v memory q reply)
call-lawful v memory calls.read_event = lawful v tt (read_event v) (read-event-sound v) (read-event-orderly v)
call-lawful v memory (calls.set_counter x) = lawful v tt (set_counter v x) (set-sound v x) (set-orderly v x)
call-lawful v memory (calls.increment x) = lawful v tt (increment v x) (increment-sound v x) (increment-orderly v x)
call-lawful v memory (calls.read_counter k) = reading v _
call-lawful v memory (calls.read_register k) = reading v _
call-lawful v memory (calls.ready x) = reading v _
call-lawful v memory (calls.poll ks tests) = reading v _

-- ## Handles

handles-by : (is_taken : Bool) (v : View) (e : Entry) (w : Walk Header)
    → v.last < LAST_HANDLE
    → Handles v.last (append_by is_taken v e w).answer (append_by is_taken v e w).state.last
unfolding handled
handles-by true v e w left = taken
handles-by false v e w left = linked left

append-handles : (v : View) (e : Entry) → Handles v.last (append v e).answer (append v e).state.last
unfolding append
append-handles v e =
    guard-cases (λ o. Handles v.last o.answer o.state.last) (refusal v tt) (append_tests v e) _
    (λ r. refused)
    (λ passed.
    let space = both (ltb (length v.entries) SLOTS) (ltb v.last LAST_HANDLE) passed.1.0 in
    handles-by (found_once e (taken_by e v.headers)) v e (taken_by e v.headers) (ltb-true v.last LAST_HANDLE space.1))

-- a refused call keeps the last handle, so a call does where what it does keeps it
same-last : {B : Type 0} (v : View) (b : B) (tests : List Condition) (does : Outcome View B)
    → does.state.last ≡ v.last
    → (guarded v b tests does).state.last ≡ v.last
same-last v b tests does h =
    guard-cases (λ (o : Outcome View _). o.state.last ≡ v.last) (refusal v b) tests does (λ r. refl) (λ passed. h)

last-kept : (v : View) (memory : List ℕ) (c : Call) → is_append c ≡ false → (state_after v memory c).last ≡ v.last
unfolding unlink search handled put get read_event set_counter increment
last-kept v memory (calls.append e) h = cc
last-kept v memory (calls.unlink handle) h = same-last v tt (unlink_tests v handle) _ refl
last-kept v memory (calls.search e) h =
    same-last v tt (search_tests v e) _
    (cond_cases (λ handling. last_after v.last handling ≡ v.last) (eqb e.list 0) Handling.Look Handling.Delete (λ look. refl) (λ delete. refl))
last-kept v memory (calls.put q payload) h =
    same-last v memory (request_tests v (length memory) q (length payload)) _
    (decided-keeps v (decide v.entries v.headers q.portal (arrival_of q Kind.Put (length payload)))).1
last-kept v memory (calls.get q reply) h =
    same-last v reply (request_tests v (length memory) q (length reply)) _
    (decided-keeps v (decide v.entries v.headers q.portal (arrival_of q Kind.Get (length reply)))).1
last-kept v memory calls.read_event h = refl
last-kept v memory (calls.set_counter x) h = same-last v tt (counter_tests x.counter) _ refl
last-kept v memory (calls.increment x) h = same-last v tt (counter_tests x.counter) _ refl
last-kept v memory (calls.read_counter k) h = refl
last-kept v memory (calls.read_register k) h = refl
last-kept v memory (calls.ready x) h = refl
last-kept v memory (calls.poll ks tests) h = refl

-- ## All of them

pub call_laws : CallLaws
call_laws = record {
  sound = λ v memory c h. facts-sound (state_after v memory c) ((call-lawful v memory c).sound (sound-facts v h));
  made = λ c. facts-sound (new c).state (new-sound c);
  fixed = λ v memory c. (call-lawful v memory c).fixed;
  refused = λ v memory c. (call-lawful v memory c).keeps;
  memory_kept = λ v memory q payload. (put-orderly v memory q payload).buffer;
  reply_kept = λ v memory q reply. (get-orderly v memory q reply).buffer;
  beyond = λ v portal a s above. none-beyond v portal a (sound-facts v s) above;
  next = append-handles;
  last_kept = last-kept;
}
