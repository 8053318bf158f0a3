-- The calls that leave the messages alone: counters, registers, reading an event, and the host's writes.
use mathlib.Core.Path.{◌≡◌, refl, ap, sym, ◌∙◌, subst}
use mathlib.Core.Bool.{false, cond}
use mathlib.Core.List.{List, [], ◌∷◌, append-nil}
use Rattle.std.specs.Prelude.{Option, None, Some}
use Prim.Native.Nat.{ℕ}
use lib.ListN.{length, set}
use Rattle.state.specs.View.{View}
use Rattle.state.specs.Counters.{counter_at, increased}
use Rattle.state.specs.Registers.{register_at}
use Rattle.state.specs.Events.{without_oldest}
use Rattle.state.specs.declared.layout.Event.{Event}
use Rattle.state.specs.declared.layout.Counter.{Counter}
use Rattle.state.specs.declared.layout.CounterChange.{CounterChange}
use Rattle.state.specs.declared.layout.CounterTest.{CounterTest}
use Rattle.state.proofs.ListLaws.{cond_cases}
use Rattle.portals.specs.Refusals.{Condition, good_arguments, unless_refused}
use Rattle.portals.specs.Answers.{Answer, DONE, COUNTER, REGISTER, READY, NOT_READY, refused, reached_answer}
use Rattle.portals.specs.Outcome.{guarded, guarded_read}
use Rattle.portals.specs.EventRead.{oldest_of, read_event}
use Rattle.portals.specs.CounterCalls.{counter_tests, counter_done, is_ready, bad_poll_argument, reached_from, bad_register_argument, set_counter, increment, read_counter, read_register, ready, poll}
use Rattle.portals.specs.Calls.{Call}
use Rattle.portals.specs.Calls as calls
use Rattle.portals.proofs.GuardLaws.{guard-cases}
use Rattle.conservation.specs.Steps.{called, wrote, says_linked}
use Rattle.conservation.specs.Ledger.{Ledger, nothing, change, call_effect}
use Rattle.conservation.specs.Answering.{AnswerRight}
use Rattle.conservation.proofs.Relations.{SameEvents, Related, Follows}
use Rattle.conservation.proofs.EventLaws.{unread, read_one, reads_more, overflow-shown}
use Rattle.conservation.proofs.StepLaws.{Unregistered, Plain, Kept, same_count, same-register, same-messages, same_read, plain-kept, refused-kept, guarded-kept, guarded-answers}

module _ (b : Ledger) (v : View) (m : List ℕ) (r : Related b v m) where
  -- a call that only reads: refused, or else a plain answer
  read_kept : (c : Call) (tests : List Condition) (a : Answer) → Plain a → call_effect b.linked c a ≡ nothing
      → Kept b m c (guarded_read tests a) v m
  read_kept c tests a p d =
      guard-cases (λ o. Kept b m c o v m) refused tests a (refused-kept b v m r c)
      (λ passed. plain-kept b v m r c a p d)

  pub read-counter-kept : (k : ℕ) → Kept b m (calls.read_counter k) (read_counter v k) v m
  unfolding read_counter
  read-counter-kept k =
      read_kept (calls.read_counter k) (counter_tests k) (COUNTER (counter_at v.counters k).success (counter_at v.counters k).failure) (record { event = refl; handle = refl; unregistered = refl }) refl

  pub read-register-kept : (k : ℕ) → Kept b m (calls.read_register k) (read_register v k) v m
  unfolding read_register
  read-register-kept k =
      read_kept (calls.read_register k) (good_arguments (bad_register_argument k) ∷ []) (REGISTER (register_at v.registers k)) (record { event = refl; handle = refl; unregistered = refl }) refl

  pub ready-kept : (x : CounterTest) → Kept b m (calls.ready x) (ready v x) v m
  unfolding ready
  ready-kept x =
      let met = is_ready (counter_at v.counters x.counter) x.test in
      read_kept (calls.ready x) (counter_tests x.counter) (cond met READY NOT_READY)
      (cond_cases Plain met READY NOT_READY
      (λ e. record { event = refl; handle = refl; unregistered = refl })
      (λ e. record { event = refl; handle = refl; unregistered = refl }))
      refl

  pub poll-kept : (ks tests : List ℕ) → Kept b m (calls.poll ks tests) (poll v ks tests) v m
  unfolding poll
  poll-kept ks tests =
      let place = reached_from v.counters 0 ks tests in
      read_kept (calls.poll ks tests) (good_arguments (bad_poll_argument ks tests) ∷ []) (reached_answer place) (reached place) refl
    where
      reached : (o : Option ℕ) → Plain (reached_answer o)
      reached None = record { event = refl; handle = refl; unregistered = refl }
      reached (Some i) = record { event = refl; handle = refl; unregistered = refl }

  -- a counter changes
  counter-kept : (c : Call) (k : ℕ) (f : Counter → Counter) → call_effect b.linked c DONE ≡ change k f
      → Kept b m c (guarded v tt (counter_tests k) (counter_done v k (f (counter_at v.counters k)))).answer
      (guarded v tt (counter_tests k) (counter_done v k (f (counter_at v.counters k)))).state m
  counter-kept c k f d =
      guarded-kept b v m r c (λ _. m) tt (counter_tests k) (counter_done v k (f (counter_at v.counters k))) refl
      (record {
        d = change k f;
        effect = d;
        linked = r.linked;
        messages = same-messages b v m r;
        events = same_read b v m r DONE v.queue b.events refl r.events;
        last = r.last ∙ sym (same_count says_linked b.heard DONE refl);
        registers = λ n. r.registers n ∙ sym (same-register b.heard DONE refl n);
        counters = ap (λ (cs : List Counter). set cs k (f (counter_at cs k))) r.counters;
        memory = refl;
        size = refl;
      })

  pub set-counter-kept : (x : CounterChange) → Kept b m (calls.set_counter x) (set_counter v x).answer (set_counter v x).state m
  unfolding set_counter
  set-counter-kept x = counter-kept (calls.set_counter x) x.counter (λ c. record { success = x.success; failure = x.failure }) refl

  pub increment-kept : (x : CounterChange) → Kept b m (calls.increment x) (increment v x).answer (increment v x).state m
  unfolding increment
  increment-kept x = counter-kept (calls.increment x) x.counter (λ c. increased c x.success x.failure) refl

  oldest-gives : (events : List Event) → says_linked (oldest_of events) ≡ false
  oldest-gives [] = refl
  oldest-gives (e ∷ rest) = refl

  oldest-counts : (events : List Event) → Unregistered (oldest_of events)
  oldest-counts [] = refl
  oldest-counts (e ∷ rest) = refl

  -- the oldest event is read, or none is there
  pub read-event-kept : Kept b m calls.read_event (read_event v).answer (read_event v).state m
  unfolding read_event
  read-event-kept = record {
    d = nothing;
    effect = refl;
    linked = r.linked;
    messages = same-messages b v m r;
    events = subst (λ reads. SameEvents reads (without_oldest v.queue) b.events) (sym (reads_more b.heard (oldest_of v.queue.events))) (read_one r.events);
    last = r.last ∙ sym (same_count says_linked b.heard _ (oldest-gives v.queue.events));
    registers = λ k. r.registers k ∙ sym (same-register b.heard _ (oldest-counts v.queue.events) k);
    counters = r.counters;
    memory = refl;
    size = refl;
  }

  -- ## The answers

  abbrev Answered : Call → Answer → Type 0
  Answered c answer = AnswerRight (length m) b (called c answer)

  pub read-counter-answered : (k : ℕ) → Answered (calls.read_counter k) (read_counter v k)
  unfolding read_counter
  read-counter-answered k =
      ap (λ (cs : List Counter). unless_refused refused (counter_tests k) (COUNTER (counter_at cs k).success (counter_at cs k).failure)) r.counters

  pub ready-answered : (x : CounterTest) → Answered (calls.ready x) (ready v x)
  unfolding ready
  ready-answered x =
      ap (λ (cs : List Counter). unless_refused refused (counter_tests x.counter) (cond (is_ready (counter_at cs x.counter) x.test) READY NOT_READY))
      r.counters

  pub poll-answered : (ks tests : List ℕ) → Answered (calls.poll ks tests) (poll v ks tests)
  unfolding poll
  poll-answered ks tests =
      ap (λ (cs : List Counter). unless_refused refused (good_arguments (bad_poll_argument ks tests) ∷ []) (reached_answer (reached_from cs 0 ks tests))) r.counters

  pub read-register-answered : (k : ℕ) → Answered (calls.read_register k) (read_register v k)
  unfolding read_register
  read-register-answered k = ap (λ n. unless_refused refused (good_arguments (bad_register_argument k) ∷ []) (REGISTER n)) (r.registers k)

  pub set-counter-answered : (x : CounterChange) → Answered (calls.set_counter x) (set_counter v x).answer
  unfolding set_counter
  set-counter-answered x = guarded-answers v tt (counter_tests x.counter) _

  pub increment-answered : (x : CounterChange) → Answered (calls.increment x) (increment v x).answer
  unfolding increment
  increment-answered x = guarded-answers v tt (counter_tests x.counter) _

  pub read-event-answered : Answered calls.read_event (read_event v).answer
  unfolding read_event
  read-event-answered = ap oldest_of (sym (unread r.events))

  -- ## The host writes

  pub host-follows : (m' : List ℕ) → length m' ≡ length m → Follows b m (record { step = wrote m m'; memory = m }) v m'
  host-follows m' e = record {
    related = record {
      is_sound = r.is_sound;
      memory = e ∙ r.memory;
      linked = r.linked;
      headers = (same-messages b v m r).headers;
      homes = (same-messages b v m r).homes;
      numbers = (same-messages b v m r).numbers;
      events = rw (append-nil b.heard) r.events;
      last = rw (append-nil b.heard) r.last;
      registers = rw (append-nil b.heard) r.registers;
      counters = r.counters;
    };
    right = record { answer = tt; overflow = overflow-shown b nothing };
    memory = (refl, (refl, e));
  }
