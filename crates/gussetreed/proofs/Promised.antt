-- The exported calls promise what their records say, ask nothing, and are covered by demand 3.
--     -promised: the `spec` that the toolchain makes of a call's `requires` and `ensures` asks nothing, and says the call's record of
--         `Replies`, by computation alone. A contract that says less or more, or that asks something of its caller, is refused here.
--     -replies: by that record the reply is the answer that the call's definition gives, told in numbers.
--     -steps: and the call is a step of a list of the theorem of conservation, from the target that was lent to the target that is left.
--         `new` begins a list, of which the theorem holds (`new-begins`).
-- Assumes nothing.
use mathlib.Core.Path.{◌≡◌, refl, ap, ◌∙◌}
use mathlib.Core.Bool.{false}
use mathlib.Core.List.{List}
use Prim.Native.Nat.{ℕ}
use lib.Dec.{eqb}
use lib.ListN.{length}
use seplogic.Ra.Ura.{Ura}
use base.Logic.{SProp}
use prog.Memory.{Memory}
use prog.Routine.{Routine}
use types.Logic.{Logic}
use contract.Lifetimes.{Lfts}
use contract.Monad.{Fun}
use denote.Bor.{Bor}
use denote.MutBor.{MutBor}
use Rattle.matching.specs.declared.layout.Entry.{Entry}
use Rattle.matching.specs.declared.layout.Request.{Request}
use Rattle.state.specs.View.{view_of}
use Rattle.state.specs.Soundness.{seen}
use Rattle.state.specs.declared.layout.Settings.{Settings}
use Rattle.state.specs.declared.layout.CounterChange.{CounterChange}
use Rattle.state.specs.declared.layout.CounterTest.{CounterTest}
use Rattle.state.specs.declared.layout.Target.{Target}
use Rattle.portals.specs.Answers.{append_answer, plain_answer, search_answer, request_answer, event_answer, counter_answer, register_answer, ready_answer, poll_answer}
use Rattle.portals.specs.Calls as Call
use Rattle.portals.specs.Outcome.{unless_unsound, read_unless_unsound}
use Rattle.portals.specs.Making.{new as new-rule}
use Rattle.portals.specs.EventRead.{read_event as read-event-rule}
use Rattle.portals.specs.CounterCalls.{set_counter as set-counter-rule, increment as increment-rule, read_counter as read-counter-rule, read_register as read-register-rule, ready as ready-rule, poll as poll-rule}
use Rattle.portals.specs.Request.{put as put-rule, get as get-rule}
use Rattle.portals.specs.declared.answers.Done.{Done}
use Rattle.portals.specs.EarlyMessages.{append as append-rule, unlink as unlink-rule, search as search-rule}
use Rattle.conservation.specs.Runs.{Stepped, Ran, Line, line, line_elsewhere}
use Rattle.conservation.specs.Conserved.{Conserved}
use Rattle.host.proofs.Promised as host
use Rattle.portals.proofs.Promised.{promises}
use Rattle.gussetreed.specs.declared.layout.Reply.{Reply}
use Rattle.gussetreed.specs.declared.layout.EventReply.{EventReply}
use Rattle.gussetreed.proofs.Telling.{by-definition, read-by-definition}
use Rattle.gussetreed.specs.Replies.{reply_of, event_reply_of, NewTold, AppendTold, UnlinkTold, SearchTold, PutTold, GetTold, ReadEventTold, SetCounterTold, IncrementTold, ReadCounterTold, ReadRegisterTold, ReadyTold, PollTold}
use Rattle.gussetreed.specs.contracts.calls.gussetreed_new as new
use Rattle.gussetreed.specs.contracts.calls.gussetreed_append as append
use Rattle.gussetreed.specs.contracts.calls.gussetreed_unlink as unlink
use Rattle.gussetreed.specs.contracts.calls.gussetreed_search as search
use Rattle.gussetreed.specs.contracts.calls.gussetreed_put as put
use Rattle.gussetreed.specs.contracts.calls.gussetreed_get as get
use Rattle.gussetreed.specs.contracts.calls.gussetreed_read_event as read-event
use Rattle.gussetreed.specs.contracts.calls.gussetreed_set_counter as set-counter
use Rattle.gussetreed.specs.contracts.calls.gussetreed_increment as increment
use Rattle.gussetreed.specs.contracts.calls.gussetreed_read_counter as read-counter
use Rattle.gussetreed.specs.contracts.calls.gussetreed_read_register as read-register
use Rattle.gussetreed.specs.contracts.calls.gussetreed_ready as ready
use Rattle.gussetreed.specs.contracts.calls.gussetreed_poll as poll

module _ {M : Type 1} {𝓤 : Ura M} (𝓛 : Logic 𝓤) (mem : Memory → SProp 𝓤) (run : Routine → Fun 𝓤) where
  -- ## The calls that are lent no slice. `left.0` is the target that is left

  module _ (κs : Lfts 1) (t : MutBor Target) where
    pub new-promised : (s : Settings) → new.spec 𝓛 mem run κs (t, (s, tt)) ≡ promises 𝓛 mem run new.ended κs (t, (s, tt)) (λ r left. NewTold s (record { target = left.0.now; answer = r }))
    new-promised s = refl

    pub append-promised : (e : Entry) → append.spec 𝓛 mem run κs (t, (e, tt)) ≡ promises 𝓛 mem run append.ended κs (t, (e, tt)) (λ r left. AppendTold t.now e (record { target = left.0.now; answer = r }))
    append-promised e = refl

    pub unlink-promised : (handle : ℕ) → unlink.spec 𝓛 mem run κs (t, (handle, tt)) ≡ promises 𝓛 mem run unlink.ended κs (t, (handle, tt)) (λ r left. UnlinkTold t.now handle (record { target = left.0.now; answer = r }))
    unlink-promised handle = refl

    pub search-promised : (e : Entry) → search.spec 𝓛 mem run κs (t, (e, tt)) ≡ promises 𝓛 mem run search.ended κs (t, (e, tt)) (λ r left. SearchTold t.now e (record { target = left.0.now; answer = r }))
    search-promised e = refl

    pub read-event-promised : read-event.spec 𝓛 mem run κs (t, tt) ≡ promises 𝓛 mem run read-event.ended κs (t, tt) (λ r left. ReadEventTold t.now (record { target = left.0.now; answer = r }))
    read-event-promised = refl

    pub set-counter-promised : (x : CounterChange) → set-counter.spec 𝓛 mem run κs (t, (x, tt)) ≡ promises 𝓛 mem run set-counter.ended κs (t, (x, tt)) (λ r left. SetCounterTold t.now x (record { target = left.0.now; answer = r }))
    set-counter-promised x = refl

    pub increment-promised : (x : CounterChange) → increment.spec 𝓛 mem run κs (t, (x, tt)) ≡ promises 𝓛 mem run increment.ended κs (t, (x, tt)) (λ r left. IncrementTold t.now x (record { target = left.0.now; answer = r }))
    increment-promised x = refl

  -- and those that only read it
  module _ (κs : Lfts 1) (t : Bor Target) where
    pub read-counter-promised : (k : ℕ) → read-counter.spec 𝓛 mem run κs (t, (k, tt)) ≡ promises 𝓛 mem run read-counter.ended κs (t, (k, tt)) (λ r left. ReadCounterTold t.now k r)
    read-counter-promised k = refl

    pub read-register-promised : (k : ℕ) → read-register.spec 𝓛 mem run κs (t, (k, tt)) ≡ promises 𝓛 mem run read-register.ended κs (t, (k, tt)) (λ r left. ReadRegisterTold t.now k r)
    read-register-promised k = refl

    pub ready-promised : (x : CounterTest) → ready.spec 𝓛 mem run κs (t, (x, tt)) ≡ promises 𝓛 mem run ready.ended κs (t, (x, tt)) (λ r left. ReadyTold t.now x r)
    ready-promised x = refl

  -- ## The calls that are lent two slices

  module _ (κs : Lfts 3) where
    -- a is the memory, left as `left.1.0`, and b the payload
    pub put-promised : (t : MutBor Target) (a : MutBor (List ℕ)) (b : Bor (List ℕ)) (q : Request) → put.spec 𝓛 mem run κs (t, (a, (q, (b, tt)))) ≡ promises 𝓛 mem run put.ended κs (t, (a, (q, (b, tt)))) (λ r left. PutTold t.now a.now q b.now (record { target = left.0.now; answer = r }) left.1.0.now)
    put-promised t a b q = refl

    -- a is the memory, and b the buffer, left as `left.1.1.1.0`
    pub get-promised : (t : MutBor Target) (a : Bor (List ℕ)) (b : MutBor (List ℕ)) (q : Request) → get.spec 𝓛 mem run κs (t, (a, (q, (b, tt)))) ≡ promises 𝓛 mem run get.ended κs (t, (a, (q, (b, tt)))) (λ r left. GetTold t.now a.now q b.now (record { target = left.0.now; answer = r }) left.1.1.1.0.now)
    get-promised t a b q = refl

    -- a is the list of counters, and b that of their tests
    pub poll-promised : (t : Bor Target) (a b : Bor (List ℕ)) → poll.spec 𝓛 mem run κs (t, (a, (b, tt))) ≡ promises 𝓛 mem run poll.ended κs (t, (a, (b, tt))) (λ r left. PollTold t.now a.now b.now r)
    poll-promised t a b = refl

-- ## The reply is the answer of the definition

pub new-replies : (s : Settings) (r : Done Reply) → NewTold s r → r.answer ≡ reply_of (new-rule s).answer
new-replies s r h = h.told ∙ ap reply_of h.met.answer

module _ (t : Target) (r : Done Reply) where
  pub append-replies : (e : Entry) → AppendTold t e r → r.answer ≡ reply_of (unless_unsound (λ v. append-rule v e) (seen t) tt).answer
  append-replies e = by-definition reply_of append_answer

  pub unlink-replies : (handle : ℕ) → UnlinkTold t handle r → r.answer ≡ reply_of (unless_unsound (λ v. unlink-rule v handle) (seen t) tt).answer
  unlink-replies handle = by-definition reply_of plain_answer

  pub search-replies : (e : Entry) → SearchTold t e r → r.answer ≡ reply_of (unless_unsound (λ v. search-rule v e) (seen t) tt).answer
  search-replies e = by-definition reply_of search_answer

  pub put-replies : (m m' : List ℕ) (q : Request) (payload : List ℕ) → PutTold t m q payload r m' → r.answer ≡ reply_of (unless_unsound (λ v. put-rule v m q payload) (seen t) m).answer
  put-replies m m' q payload = by-definition reply_of request_answer

  pub get-replies : (m : List ℕ) (q : Request) (buffer buffer' : List ℕ) → GetTold t m q buffer r buffer' → r.answer ≡ reply_of (unless_unsound (λ v. get-rule v m q buffer) (seen t) buffer).answer
  get-replies m q buffer buffer' = by-definition reply_of request_answer

  pub set-counter-replies : (x : CounterChange) → SetCounterTold t x r → r.answer ≡ reply_of (unless_unsound (λ v. set-counter-rule v x) (seen t) tt).answer
  set-counter-replies x = by-definition reply_of plain_answer

  pub increment-replies : (x : CounterChange) → IncrementTold t x r → r.answer ≡ reply_of (unless_unsound (λ v. increment-rule v x) (seen t) tt).answer
  increment-replies x = by-definition reply_of plain_answer

pub read-event-replies : (t : Target) (r : Done EventReply) → ReadEventTold t r → r.answer ≡ event_reply_of (unless_unsound read-event-rule (seen t) tt).answer
read-event-replies t r = by-definition event_reply_of event_answer

module _ (t : Target) (r : Reply) where
  pub read-counter-replies : (k : ℕ) → ReadCounterTold t k r → r ≡ reply_of (read_unless_unsound (λ v. read-counter-rule v k) (seen t))
  read-counter-replies k = read-by-definition counter_answer

  pub read-register-replies : (k : ℕ) → ReadRegisterTold t k r → r ≡ reply_of (read_unless_unsound (λ v. read-register-rule v k) (seen t))
  read-register-replies k = read-by-definition register_answer

  pub ready-replies : (x : CounterTest) → ReadyTold t x r → r ≡ reply_of (read_unless_unsound (λ v. ready-rule v x) (seen t))
  ready-replies x = read-by-definition ready_answer

  pub poll-replies : (ks tests : List ℕ) → PollTold t ks tests r → r ≡ reply_of (read_unless_unsound (λ v. poll-rule v ks tests) (seen t))
  poll-replies ks tests = read-by-definition poll_answer

-- ## Each call is a step: t is lent, and r has the target that is left; m is the memory

module _ {t : Target} {m : List ℕ} {r : Done Reply} where
  pub append-steps : {e : Entry} (h : AppendTold t e r) → Stepped t m (line m (Call.append e) (append_answer h.answer)) r.target m
  append-steps h = host.append-steps h.answer h.met

  pub unlink-steps : {handle : ℕ} (h : UnlinkTold t handle r) → Stepped t m (line m (Call.unlink handle) (plain_answer h.answer)) r.target m
  unlink-steps h = host.unlink-steps h.answer h.met

  pub search-steps : {e : Entry} (h : SearchTold t e r) → Stepped t m (line m (Call.search e) (search_answer h.answer)) r.target m
  search-steps h = host.search-steps h.answer h.met

  pub set-counter-steps : {x : CounterChange} (h : SetCounterTold t x r) → Stepped t m (line m (Call.set_counter x) (plain_answer h.answer)) r.target m
  set-counter-steps h = host.set-counter-steps h.answer h.met

  pub increment-steps : {x : CounterChange} (h : IncrementTold t x r) → Stepped t m (line m (Call.increment x) (plain_answer h.answer)) r.target m
  increment-steps h = host.increment-steps h.answer h.met

  pub put-steps : {q : Request} {payload m' : List ℕ} (h : PutTold t m q payload r m') → Stepped t m (line m (Call.put q payload) (request_answer h.answer)) r.target m'
  put-steps h = host.put-steps h.answer h.met

  pub get-steps : {q : Request} {buffer buffer' : List ℕ} (h : GetTold t m q buffer r buffer') → Stepped t m (line m (Call.get q buffer) (request_answer h.answer)) r.target m
  get-steps h = host.get-steps h.answer h.met

  -- lent a memory of another length
  pub put-elsewhere-steps : (lent : List ℕ) {lent' : List ℕ} (q : Request) (payload : List ℕ) (h : PutTold t lent q payload r lent') → eqb (length lent) (length m) ≡ false → Stepped t m (line_elsewhere m lent (request_answer h.answer)) r.target m
  put-elsewhere-steps lent q payload h = host.put-elsewhere-steps lent q payload h.answer h.met

  pub get-elsewhere-steps : (lent : List ℕ) (q : Request) {buffer buffer' : List ℕ} (h : GetTold t lent q buffer r buffer') → eqb (length lent) (length m) ≡ false → Stepped t m (line_elsewhere m lent (request_answer h.answer)) r.target m
  get-elsewhere-steps lent q h = host.get-elsewhere-steps lent q h.answer h.met

pub read-event-steps : {t : Target} {m : List ℕ} {r : Done EventReply} (h : ReadEventTold t r) → Stepped t m (line m Call.read_event (event_answer h.answer)) r.target m
read-event-steps h = host.read-event-steps h.answer h.met

-- a call that only reads leaves the target that it is lent
module _ {t : Target} {m : List ℕ} {r : Reply} where
  pub read-counter-steps : {k : ℕ} (h : ReadCounterTold t k r) → Stepped t m (line m (Call.read_counter k) (counter_answer h.answer)) t m
  read-counter-steps h = host.read-counter-steps h.answer h.met

  pub read-register-steps : {k : ℕ} (h : ReadRegisterTold t k r) → Stepped t m (line m (Call.read_register k) (register_answer h.answer)) t m
  read-register-steps h = host.read-register-steps h.answer h.met

  pub ready-steps : {x : CounterTest} (h : ReadyTold t x r) → Stepped t m (line m (Call.ready x) (ready_answer h.answer)) t m
  ready-steps h = host.ready-steps h.answer h.met

  pub poll-steps : {ks tests : List ℕ} (h : PollTold t ks tests r) → Stepped t m (line m (Call.poll ks tests) (poll_answer h.answer)) t m
  poll-steps h = host.poll-steps h.answer h.met

pub new-begins : (s : Settings) (r : Done Reply) (start : List ℕ) (log : List Line) (t' : Target) (m : List ℕ)
    → NewTold s r
    → length start ≡ (view_of r.target).size
    → Ran r.target start log t' m
    → Conserved start log t' m
new-begins s r start log t' m h = host.new-begins s r.target h.answer start log t' m h.met
