-- Demand 3 covers the calls that hosts make: they are the steps of the lists that the theorem of conservation is about.
--
-- A call on a lent target is proved to meet its `spec`, which the toolchain makes of its `requires` and `ensures`. For each call this
-- page shows, by computation alone (`-promised`), that its spec asks nothing, and that what it says is the call's record of `portals`,
-- at the target as it was lent and as it is left. That record is what a step of a list is made of (`-steps`): from the target that was
-- lent to the target that is left. `new` begins a list (`new-begins`). Of each call by value it shows likewise that it promises the
-- same record, of the target that it is handed and of the one that it hands back, and asks nothing (`-same`). A contract that says less
-- or more, or that asks something of its caller, is refused here.
use mathlib.Core.Path.{◌≡◌, refl}
use mathlib.Core.Bool.{Bool, false}
use mathlib.Core.List.{List}
use Prim.Native.Nat.{ℕ}
use lib.Dec.{eqb}
use lib.ListN.{length}
use seplogic.Ra.Ura.{Ura}
use base.Logic.{SProp}
use prog.Memory.{Memory}
use prog.Routine.{Routine}
use types.Logic.{Logic}
use contract.Lifetimes.{Lfts}
use contract.Monad.{Fun}
use denote.Bor.{Bor}
use denote.MutBor.{MutBor}
use Rattle.std.specs.Prelude.{Option, Result}
use Rattle.matching.specs.declared.refusals.Refusal.{Refusal}
use Rattle.matching.specs.declared.layout.Entry.{Entry}
use Rattle.matching.specs.declared.layout.Request.{Request}
use Rattle.state.specs.View.{view_of}
use Rattle.state.specs.declared.layout.Settings.{Settings}
use Rattle.state.specs.declared.layout.CounterChange.{CounterChange}
use Rattle.state.specs.declared.layout.CounterTest.{CounterTest}
use Rattle.state.specs.declared.layout.Counter.{Counter}
use Rattle.state.specs.declared.layout.Event.{Event}
use Rattle.state.specs.declared.layout.Target.{Target}
use Rattle.portals.specs.Answers.{append_answer, plain_answer, search_answer, request_answer, event_answer, counter_answer, register_answer, ready_answer, poll_answer}
use Rattle.portals.specs.Calls as Call
use Rattle.portals.specs.Promises.{NewMet, AppendMet, UnlinkMet, SearchMet, PutMet, GetMet, ReadEventMet, SetCounterMet, IncrementMet, ReadCounterMet, ReadRegisterMet, ReadyMet, PollMet}
use Rattle.portals.specs.declared.answers.Appended.{Appended}
use Rattle.portals.specs.declared.answers.RequestAnswer.{RequestAnswer}
use Rattle.portals.specs.declared.answers.Done.{Done}
use Rattle.portals.proofs.Promised.{promises}
use Rattle.conservation.specs.Runs.{Stepped, Ran, Line, line, line_elsewhere}
use Rattle.conservation.specs.Runs as step
use Rattle.conservation.specs.Conserved.{Conserved}
use Rattle.conservation.proofs.EveryList.{conservation}
use Rattle.host.specs.contracts.lent.new as new
use Rattle.host.specs.contracts.lent.append as append
use Rattle.host.specs.contracts.lent.unlink as unlink
use Rattle.host.specs.contracts.lent.search as search
use Rattle.host.specs.contracts.lent.put as put
use Rattle.host.specs.contracts.lent.get as get
use Rattle.host.specs.contracts.lent.read_event as read-event
use Rattle.host.specs.contracts.lent.set_counter as set-counter
use Rattle.host.specs.contracts.lent.increment as increment
use Rattle.host.specs.contracts.lent.read_counter as read-counter
use Rattle.host.specs.contracts.lent.read_register as read-register
use Rattle.host.specs.contracts.lent.ready as ready
use Rattle.host.specs.contracts.lent.poll as poll
use Rattle.host.proofs.by_value.new.Reads as by-new
use Rattle.host.proofs.by_value.append.Reads as by_append
use Rattle.host.proofs.by_value.unlink.Reads as by-unlink
use Rattle.host.proofs.by_value.search.Reads as by-search
use Rattle.host.proofs.by_value.put.Reads as by-put
use Rattle.host.proofs.by_value.get.Reads as by-get
use Rattle.host.proofs.by_value.read_event.Reads as by-read-event
use Rattle.host.proofs.by_value.set_counter.Reads as by-set-counter
use Rattle.host.proofs.by_value.increment.Reads as by-increment
use Rattle.host.proofs.by_value.read_counter.Reads as by-read-counter
use Rattle.host.proofs.by_value.read_register.Reads as by-read-register
use Rattle.host.proofs.by_value.ready.Reads as by-ready
use Rattle.host.proofs.by_value.poll.Reads as by-poll

module _ {M : Type 1} {𝓤 : Ura M} (𝓛 : Logic 𝓤) (mem : Memory → SProp 𝓤) (run : Routine → Fun 𝓤) where
  -- ## The calls that are lent no slice. `left.0` is the target that is left

  module _ (κs : Lfts 1) (t : MutBor Target) where
    pub new-promised : (s : Settings) → new.spec 𝓛 mem run κs (t, (s, tt)) ≡ promises 𝓛 mem run new.ended κs (t, (s, tt)) (λ r left. NewMet s (record { target = left.0.now; answer = r }))
    new-promised s = refl

    pub append-promised : (e : Entry) → append.spec 𝓛 mem run κs (t, (e, tt)) ≡ promises 𝓛 mem run append.ended κs (t, (e, tt)) (λ r left. AppendMet t.now e (record { target = left.0.now; answer = r }))
    append-promised e = refl

    pub unlink-promised : (handle : ℕ) → unlink.spec 𝓛 mem run κs (t, (handle, tt)) ≡ promises 𝓛 mem run unlink.ended κs (t, (handle, tt)) (λ r left. UnlinkMet t.now handle (record { target = left.0.now; answer = r }))
    unlink-promised handle = refl

    pub search-promised : (e : Entry) → search.spec 𝓛 mem run κs (t, (e, tt)) ≡ promises 𝓛 mem run search.ended κs (t, (e, tt)) (λ r left. SearchMet t.now e (record { target = left.0.now; answer = r }))
    search-promised e = refl

    pub read-event-promised : read-event.spec 𝓛 mem run κs (t, tt) ≡ promises 𝓛 mem run read-event.ended κs (t, tt) (λ r left. ReadEventMet t.now (record { target = left.0.now; answer = r }))
    read-event-promised = refl

    pub set-counter-promised : (x : CounterChange) → set-counter.spec 𝓛 mem run κs (t, (x, tt)) ≡ promises 𝓛 mem run set-counter.ended κs (t, (x, tt)) (λ r left. SetCounterMet t.now x (record { target = left.0.now; answer = r }))
    set-counter-promised x = refl

    pub increment-promised : (x : CounterChange) → increment.spec 𝓛 mem run κs (t, (x, tt)) ≡ promises 𝓛 mem run increment.ended κs (t, (x, tt)) (λ r left. IncrementMet t.now x (record { target = left.0.now; answer = r }))
    increment-promised x = refl

  -- and those that only read it
  module _ (κs : Lfts 1) (t : Bor Target) where
    pub read-counter-promised : (k : ℕ) → read-counter.spec 𝓛 mem run κs (t, (k, tt)) ≡ promises 𝓛 mem run read-counter.ended κs (t, (k, tt)) (λ r left. ReadCounterMet t.now k r)
    read-counter-promised k = refl

    pub read-register-promised : (k : ℕ) → read-register.spec 𝓛 mem run κs (t, (k, tt)) ≡ promises 𝓛 mem run read-register.ended κs (t, (k, tt)) (λ r left. ReadRegisterMet t.now k r)
    read-register-promised k = refl

    pub ready-promised : (x : CounterTest) → ready.spec 𝓛 mem run κs (t, (x, tt)) ≡ promises 𝓛 mem run ready.ended κs (t, (x, tt)) (λ r left. ReadyMet t.now x r)
    ready-promised x = refl

  -- ## The calls that are lent two slices

  module _ (κs : Lfts 3) where
    -- a is the memory, left as `left.1.0`, and b the payload
    pub put-promised : (t : MutBor Target) (a : MutBor (List ℕ)) (b : Bor (List ℕ)) (q : Request) → put.spec 𝓛 mem run κs (t, (a, (q, (b, tt)))) ≡ promises 𝓛 mem run put.ended κs (t, (a, (q, (b, tt)))) (λ r left. PutMet t.now a.now q b.now (record { target = left.0.now; answer = r }) left.1.0.now)
    put-promised t a b q = refl

    -- a is the memory, and b the reply, left as `left.1.1.1.0`
    pub get-promised : (t : MutBor Target) (a : Bor (List ℕ)) (b : MutBor (List ℕ)) (q : Request) → get.spec 𝓛 mem run κs (t, (a, (q, (b, tt)))) ≡ promises 𝓛 mem run get.ended κs (t, (a, (q, (b, tt)))) (λ r left. GetMet t.now a.now q b.now (record { target = left.0.now; answer = r }) left.1.1.1.0.now)
    get-promised t a b q = refl

    -- a is the list of counters, and b that of their tests
    pub poll-promised : (t : Bor Target) (a b : Bor (List ℕ)) → poll.spec 𝓛 mem run κs (t, (a, (b, tt))) ≡ promises 𝓛 mem run poll.ended κs (t, (a, (b, tt))) (λ r left. PollMet t.now a.now b.now r)
    poll-promised t a b = refl

-- ## Each call is a step: t is lent, and t' is left; m is the memory

module _ {m : List ℕ} {t t' : Target} where
  pub append-steps : {e : Entry} (r : Result Appended Refusal) → AppendMet t e (record { target = t'; answer = r }) → Stepped t m (line m (Call.append e) (append_answer r)) t' m
  append-steps r = step.append (record { target = t'; answer = r })

  pub unlink-steps : {handle : ℕ} (r : Result Unit Refusal) → UnlinkMet t handle (record { target = t'; answer = r }) → Stepped t m (line m (Call.unlink handle) (plain_answer r)) t' m
  unlink-steps r = step.unlink (record { target = t'; answer = r })

  pub search-steps : {e : Entry} (r : Result ℕ Refusal) → SearchMet t e (record { target = t'; answer = r }) → Stepped t m (line m (Call.search e) (search_answer r)) t' m
  search-steps r = step.search (record { target = t'; answer = r })

  pub read-event-steps : (r : Result (Option Event) Refusal) → ReadEventMet t (record { target = t'; answer = r }) → Stepped t m (line m Call.read_event (event_answer r)) t' m
  read-event-steps r = step.read_event (record { target = t'; answer = r })

  pub set-counter-steps : {x : CounterChange} (r : Result Unit Refusal) → SetCounterMet t x (record { target = t'; answer = r }) → Stepped t m (line m (Call.set_counter x) (plain_answer r)) t' m
  set-counter-steps r = step.set_counter (record { target = t'; answer = r })

  pub increment-steps : {x : CounterChange} (r : Result Unit Refusal) → IncrementMet t x (record { target = t'; answer = r }) → Stepped t m (line m (Call.increment x) (plain_answer r)) t' m
  increment-steps r = step.increment (record { target = t'; answer = r })

  pub put-steps : {q : Request} {payload m' : List ℕ} (r : Result RequestAnswer Refusal) → PutMet t m q payload (record { target = t'; answer = r }) m' → Stepped t m (line m (Call.put q payload) (request_answer r)) t' m'
  put-steps r = step.put (record { target = t'; answer = r })

  pub get-steps : {q : Request} {reply reply' : List ℕ} (r : Result RequestAnswer Refusal) → GetMet t m q reply (record { target = t'; answer = r }) reply' → Stepped t m (line m (Call.get q reply) (request_answer r)) t' m
  get-steps r = step.get (record { target = t'; answer = r })

  -- lent a memory of another length
  pub put-elsewhere-steps : (lent : List ℕ) {lent' : List ℕ} (q : Request) (payload : List ℕ) (r : Result RequestAnswer Refusal) → PutMet t lent q payload (record { target = t'; answer = r }) lent' → eqb (length lent) (length m) ≡ false → Stepped t m (line_elsewhere m lent (request_answer r)) t' m
  put-elsewhere-steps lent q payload r = step.put_elsewhere lent q payload (record { target = t'; answer = r })

  pub get-elsewhere-steps : (lent : List ℕ) (q : Request) {reply reply' : List ℕ} (r : Result RequestAnswer Refusal) → GetMet t lent q reply (record { target = t'; answer = r }) reply' → eqb (length lent) (length m) ≡ false → Stepped t m (line_elsewhere m lent (request_answer r)) t' m
  get-elsewhere-steps lent q r = step.get_elsewhere lent q (record { target = t'; answer = r })

-- a call that only reads leaves the target that it is lent
module _ {m : List ℕ} {t : Target} where
  pub read-counter-steps : {k : ℕ} (r : Result Counter Refusal) → ReadCounterMet t k r → Stepped t m (line m (Call.read_counter k) (counter_answer r)) t m
  read-counter-steps r = step.read_counter r

  pub read-register-steps : {k : ℕ} (r : Result ℕ Refusal) → ReadRegisterMet t k r → Stepped t m (line m (Call.read_register k) (register_answer r)) t m
  read-register-steps r = step.read_register r

  pub ready-steps : {x : CounterTest} (r : Result Bool Refusal) → ReadyMet t x r → Stepped t m (line m (Call.ready x) (ready_answer r)) t m
  ready-steps r = step.ready r

  pub poll-steps : {ks tests : List ℕ} (r : Result (Option ℕ) Refusal) → PollMet t ks tests r → Stepped t m (line m (Call.poll ks tests) (poll_answer r)) t m
  poll-steps r = step.poll r

-- ## A list begins with `new`

pub new-begins : (s : Settings) (t : Target) (r : Result Unit Refusal) (start : List ℕ) (log : List Line) (t' : Target) (m : List ℕ)
    → NewMet s (record { target = t; answer = r })
    → length start ≡ (view_of t).size
    → Ran t start log t' m
    → Conserved start log t' m
new-begins s t r = conservation s (record { target = t; answer = r })

-- ## The calls by value

module _ (κs : Lfts 0) where
  pub new-same : (s : Settings) (r : Done (Result Unit Refusal)) → (by-new.Learnt κs (s, tt) r (s, tt) ≡ NewMet s r) × (by-new.Asked κs (s, tt) ≡ Unit {0})
  new-same s r = (refl, refl)

module _ (κs : Lfts 0) (t : Target) where
  pub append-same : (e : Entry) (r : Done (Result Appended Refusal)) → (by_append.Learnt κs (t, (e, tt)) r (t, (e, tt)) ≡ AppendMet t e r) × (by_append.Asked κs (t, (e, tt)) ≡ Unit {0})
  append-same e r = (refl, refl)

  pub unlink-same : (handle : ℕ) (r : Done (Result Unit Refusal)) → (by-unlink.Learnt κs (t, (handle, tt)) r (t, (handle, tt)) ≡ UnlinkMet t handle r) × (by-unlink.Asked κs (t, (handle, tt)) ≡ Unit {0})
  unlink-same handle r = (refl, refl)

  pub search-same : (e : Entry) (r : Done (Result ℕ Refusal)) → (by-search.Learnt κs (t, (e, tt)) r (t, (e, tt)) ≡ SearchMet t e r) × (by-search.Asked κs (t, (e, tt)) ≡ Unit {0})
  search-same e r = (refl, refl)

  pub read-event-same : (r : Done (Result (Option Event) Refusal)) → (by-read-event.Learnt κs (t, tt) r (t, tt) ≡ ReadEventMet t r) × (by-read-event.Asked κs (t, tt) ≡ Unit {0})
  read-event-same r = (refl, refl)

  pub set-counter-same : (x : CounterChange) (r : Done (Result Unit Refusal)) → (by-set-counter.Learnt κs (t, (x, tt)) r (t, (x, tt)) ≡ SetCounterMet t x r) × (by-set-counter.Asked κs (t, (x, tt)) ≡ Unit {0})
  set-counter-same x r = (refl, refl)

  pub increment-same : (x : CounterChange) (r : Done (Result Unit Refusal)) → (by-increment.Learnt κs (t, (x, tt)) r (t, (x, tt)) ≡ IncrementMet t x r) × (by-increment.Asked κs (t, (x, tt)) ≡ Unit {0})
  increment-same x r = (refl, refl)

  pub read-counter-same : (k : ℕ) (r : Result Counter Refusal) → (by-read-counter.Learnt κs (t, (k, tt)) r (t, (k, tt)) ≡ ReadCounterMet t k r) × (by-read-counter.Asked κs (t, (k, tt)) ≡ Unit {0})
  read-counter-same k r = (refl, refl)

  pub read-register-same : (k : ℕ) (r : Result ℕ Refusal) → (by-read-register.Learnt κs (t, (k, tt)) r (t, (k, tt)) ≡ ReadRegisterMet t k r) × (by-read-register.Asked κs (t, (k, tt)) ≡ Unit {0})
  read-register-same k r = (refl, refl)

  pub ready-same : (x : CounterTest) (r : Result Bool Refusal) → (by-ready.Learnt κs (t, (x, tt)) r (t, (x, tt)) ≡ ReadyMet t x r) × (by-ready.Asked κs (t, (x, tt)) ≡ Unit {0})
  ready-same x r = (refl, refl)

-- and those that are lent two slices
module _ (κs : Lfts 2) (t : Target) where
  -- a is the memory, left as a', and b the payload
  pub put_same : (a : MutBor (List ℕ)) (b : Bor (List ℕ)) (q : Request) (r : Done (Result RequestAnswer Refusal)) (a' : MutBor (List ℕ))
      → (by-put.Learnt κs (t, (a, (q, (b, tt)))) r (t, (a', (q, (b, tt)))) ≡ PutMet t a.now q b.now r a'.now) × (by-put.Asked κs (t, (a, (q, (b, tt)))) ≡ Unit {0})
  put_same a b q r a' = (refl, refl)

  -- a is the memory, and b the reply, left as b'
  pub get-same : (a : Bor (List ℕ)) (b : MutBor (List ℕ)) (q : Request) (r : Done (Result RequestAnswer Refusal)) (b' : MutBor (List ℕ))
      → (by-get.Learnt κs (t, (a, (q, (b, tt)))) r (t, (a, (q, (b', tt)))) ≡ GetMet t a.now q b.now r b'.now) × (by-get.Asked κs (t, (a, (q, (b, tt)))) ≡ Unit {0})
  get-same a b q r b' = (refl, refl)

  -- a is the list of counters, and b that of their tests
  pub poll-same : (a b : Bor (List ℕ)) (r : Result (Option ℕ) Refusal) → (by-poll.Learnt κs (t, (a, (b, tt))) r (t, (a, (b, tt))) ≡ PollMet t a.now b.now r) × (by-poll.Asked κs (t, (a, (b, tt))) ≡ Unit {0})
  poll-same a b r = (refl, refl)
