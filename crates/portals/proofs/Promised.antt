-- The promises are the functions' own contracts.
--
-- Each call is proved to meet its `spec`, which the toolchain makes of its `requires` and `ensures`. For each public call this page
-- shows, by computation alone, that its spec asks nothing, and that what it says is the call's record of Promises.antt, at the target
-- as it was lent and as it is left. So the records that the theorem of conservation is about are the contracts of the functions that
-- run, and a call may be made on any state and with any input. A contract that says less or more, or a call that asks something of its
-- caller, is refused here.
use mathlib.Core.Path.{◌≡◌, refl}
use mathlib.Core.List.{List}
use Prim.Native.Nat.{ℕ}
use seplogic.Ra.Ura.{Ura}
use base.Logic.{SProp, emp}
use prog.Memory.{Memory}
use prog.Routine.{Routine}
use types.Logic.{Logic}
use contract.Lifetimes.{Lfts}
use contract.Monad.{Fun, fact}
use denote.Bor.{Bor}
use denote.MutBor.{MutBor}
use denote.Triple.Clauses.{Ended, AtExit}
use denote.Triple.Entry.{Args, Res}
use denote.Triple.Spec.{SpecAt, exits}
use Rattle.matching.specs.declared.layout.Entry.{Entry}
use Rattle.matching.specs.declared.layout.Request.{Request}
use Rattle.state.specs.declared.layout.Settings.{Settings}
use Rattle.state.specs.declared.layout.CounterChange.{CounterChange}
use Rattle.state.specs.declared.layout.CounterTest.{CounterTest}
use Rattle.state.specs.declared.layout.Target.{Target}
use Rattle.portals.specs.Promises.{NewMet, AppendMet, UnlinkMet, SearchMet, PutMet, GetMet, ReadEventMet, SetCounterMet, IncrementMet, ReadCounterMet, ReadRegisterMet, ReadyMet, PollMet}
use Rattle.portals.specs.contracts.making.new as new
use Rattle.portals.specs.contracts.append.append as append
use Rattle.portals.specs.contracts.unlink.unlink as unlink
use Rattle.portals.specs.contracts.search.search as search
use Rattle.portals.specs.contracts.put_get.put as put
use Rattle.portals.specs.contracts.put_get.get as get
use Rattle.portals.specs.contracts.events.read_event as read-event
use Rattle.portals.specs.contracts.counters.set_counter as set-counter
use Rattle.portals.specs.contracts.counters.increment as increment
use Rattle.portals.specs.contracts.counters.read_counter as read-counter
use Rattle.portals.specs.contracts.registers.read_register as read-register
use Rattle.portals.specs.contracts.counters.ready as ready
use Rattle.portals.specs.contracts.poll.poll as poll

module _ {M : Type 1} {𝓤 : Ura M} (𝓛 : Logic 𝓤) (mem : Memory → SProp 𝓤) (run : Routine → Fun 𝓤) where
  -- A contract that asks nothing, and says P of the answer and of what the parameters are left as.
  abbrev pub promises : (T : Ended) (κs : Lfts T.signature.lifetimes) (a : Args T.signature κs) → (Res T.signature κs → AtExit T κs → Type 0) → SpecAt 𝓤 T.signature κs
  promises T κs a P = record { ghost = Unit {0}; requires = λ _. emp 𝓤; ensures = λ _ r. exits 𝓛 T.signature T.kept κs a (λ left. fact 𝓤 (P r left)) }

  -- ## The calls that are lent no slice. `left.0` is the target that is left

  module _ (κs : Lfts 1) (t : MutBor Target) where
    pub new-promised : (s : Settings) → new.spec 𝓛 mem run κs (t, (s, tt)) ≡ promises new.ended κs (t, (s, tt)) (λ r left. NewMet s (record { target = left.0.now; answer = r }))
    new-promised s = refl

    pub append-promised : (e : Entry) → append.spec 𝓛 mem run κs (t, (e, tt)) ≡ promises append.ended κs (t, (e, tt)) (λ r left. AppendMet t.now e (record { target = left.0.now; answer = r }))
    append-promised e = refl

    pub unlink-promised : (handle : ℕ) → unlink.spec 𝓛 mem run κs (t, (handle, tt)) ≡ promises unlink.ended κs (t, (handle, tt)) (λ r left. UnlinkMet t.now handle (record { target = left.0.now; answer = r }))
    unlink-promised handle = refl

    pub search-promised : (e : Entry) → search.spec 𝓛 mem run κs (t, (e, tt)) ≡ promises search.ended κs (t, (e, tt)) (λ r left. SearchMet t.now e (record { target = left.0.now; answer = r }))
    search-promised e = refl

    pub read-event-promised : read-event.spec 𝓛 mem run κs (t, tt) ≡ promises read-event.ended κs (t, tt) (λ r left. ReadEventMet t.now (record { target = left.0.now; answer = r }))
    read-event-promised = refl

    pub set-counter-promised : (x : CounterChange) → set-counter.spec 𝓛 mem run κs (t, (x, tt)) ≡ promises set-counter.ended κs (t, (x, tt)) (λ r left. SetCounterMet t.now x (record { target = left.0.now; answer = r }))
    set-counter-promised x = refl

    pub increment-promised : (x : CounterChange) → increment.spec 𝓛 mem run κs (t, (x, tt)) ≡ promises increment.ended κs (t, (x, tt)) (λ r left. IncrementMet t.now x (record { target = left.0.now; answer = r }))
    increment-promised x = refl

  -- and those that only read it
  module _ (κs : Lfts 1) (t : Bor Target) where
    pub read-counter-promised : (k : ℕ) → read-counter.spec 𝓛 mem run κs (t, (k, tt)) ≡ promises read-counter.ended κs (t, (k, tt)) (λ r left. ReadCounterMet t.now k r)
    read-counter-promised k = refl

    pub read-register-promised : (k : ℕ) → read-register.spec 𝓛 mem run κs (t, (k, tt)) ≡ promises read-register.ended κs (t, (k, tt)) (λ r left. ReadRegisterMet t.now k r)
    read-register-promised k = refl

    pub ready-promised : (x : CounterTest) → ready.spec 𝓛 mem run κs (t, (x, tt)) ≡ promises ready.ended κs (t, (x, tt)) (λ r left. ReadyMet t.now x r)
    ready-promised x = refl

  -- ## The calls that are lent two slices

  module _ (κs : Lfts 3) where
    -- a is the memory, left as `left.1.0`, and b the payload
    pub put-promised : (t : MutBor Target) (a : MutBor (List ℕ)) (b : Bor (List ℕ)) (q : Request) → put.spec 𝓛 mem run κs (t, (a, (q, (b, tt)))) ≡ promises put.ended κs (t, (a, (q, (b, tt)))) (λ r left. PutMet t.now a.now q b.now (record { target = left.0.now; answer = r }) left.1.0.now)
    put-promised t a b q = refl

    -- a is the memory, and b the reply, left as `left.1.1.1.0`
    pub get-promised : (t : MutBor Target) (a : Bor (List ℕ)) (b : MutBor (List ℕ)) (q : Request) → get.spec 𝓛 mem run κs (t, (a, (q, (b, tt)))) ≡ promises get.ended κs (t, (a, (q, (b, tt)))) (λ r left. GetMet t.now a.now q b.now (record { target = left.0.now; answer = r }) left.1.1.1.0.now)
    get-promised t a b q = refl

    -- a is the list of counters, and b that of their tests
    pub poll-promised : (t : Bor Target) (a b : Bor (List ℕ)) → poll.spec 𝓛 mem run κs (t, (a, (b, tt))) ≡ promises poll.ended κs (t, (a, (b, tt))) (λ r left. PollMet t.now a.now b.now r)
    poll-promised t a b = refl
