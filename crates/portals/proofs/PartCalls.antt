-- The calls that change at most one part of a target, and the one that makes it: how each keeps its promise.
use Rattle.std.specs.Prelude.{Option, None, Some, Result, Ok, Err, is_ok}
use mathlib.Core.Path.{◌≡◌, refl, ap, sym, ◌∙◌, subst}
use mathlib.Core.Bool.{Bool, true, false, cond, false≢true}
use mathlib.Core.List.{List, [], ◌∷◌}
use Prim.Native.Nat.{ℕ}
use lib.ListN.{set}
use Rattle.matching.specs.declared.refusals.Refusal.{Refusal}
use Rattle.matching.specs.declared.refusals.BadArgument.{BadArgument}
use Rattle.state.specs.Registers.{register_at}
use Rattle.state.specs.View.{View, view_of, entries_of, queue_of, empty_target, empty_view, with_entries, with_queue, with_counters}
use Rattle.state.specs.Soundness.{sound_view, sound}
use Rattle.state.specs.Counters.{counter_at, increased}
use Rattle.state.specs.Lists.{remove_at}
use Rattle.state.specs.Parts.{EntriesHold, Taken, TargetFits}
use Rattle.state.specs.declared.layout.Settings.{Settings}
use Rattle.state.specs.declared.layout.Entries.{Entries}
use Rattle.state.specs.declared.layout.Queue.{Queue}
use Rattle.state.specs.declared.layout.Event.{Event}
use Rattle.state.specs.declared.layout.Counter.{Counter}
use Rattle.state.specs.declared.layout.Counters.{Counters}
use Rattle.state.specs.declared.layout.CounterChange.{CounterChange}
use Rattle.state.specs.declared.layout.CounterTest.{CounterTest}
use Rattle.state.specs.declared.layout.Target.{Target}
use Rattle.state.proofs.SoundLaws.{facts-sound}
use Rattle.portals.specs.Admission.{Admits}
use Rattle.portals.specs.Answers.{DONE, COUNTER, REGISTER, READY, NOT_READY, read_as, reached_answer, new_answer}
use Rattle.portals.specs.EventRead.{event_taken, read_event}
use Rattle.portals.specs.Refusals.{good_arguments}
use Rattle.portals.specs.Making.{bad_setting, new}
use Rattle.portals.specs.CounterCalls.{counter_tests, counter_done, set_counter, increment, read_counter, bad_register_argument, read_register, is_ready, ready, bad_poll_argument, reached_from, poll}
use Rattle.portals.specs.EarlyMessages.{unlink_tests, unlinked, unlink, Unlinks}
use Rattle.portals.specs.Promises.{Met, NewMet}
use Rattle.portals.proofs.EarlyKept.{unlink-sound}
use Rattle.portals.proofs.PartsKept.{new-sound, set-sound, increment-sound, read-event-sound, oldest-answers}
use Rattle.portals.proofs.MetLaws.{seen-sound, sound-joined, fits-counts, Done, Guarded, done-kept, GuardedRead}

-- ## The counters

-- the target with other counters
abbrev counters_left : Target → Counters → Target
counters_left t counters = record {
  size = t.size;
  last = t.last;
  entries = t.entries;
  unexpected = t.unexpected;
  queue = t.queue;
  counters = counters;
  registers = t.registers;
}

-- another counter in the place of one
counter-done : (t : Target) (counters : Counters) (k : ℕ) (c : Counter)
    → TargetFits t
    → counters.slots ≡ set t.counters.slots k c
    → Done (counter_done (view_of t) k c) (counters_left t counters) tt DONE
counter-done t counters k c fits e = record {
  answers = refl;
  granted = refl;
  state = ap (with_counters (view_of t)) e;
  buffer = refl;
  counts = fits-counts t fits;
}

module _ (x : CounterChange) where
  pub set-guarded : Guarded (λ v. set_counter v x)
      (λ v. counter_done v x.counter (record { success = x.success; failure = x.failure })) (λ v. counter_tests x.counter) tt
  unfolding set_counter
  set-guarded = record { is = λ v. refl; kept = λ v s. set-sound v x s }

  pub increment-guarded : Guarded (λ v. increment v x)
      (λ v. counter_done v x.counter (increased (counter_at v.counters x.counter) x.success x.failure)) (λ v. counter_tests x.counter) tt
  unfolding increment
  increment-guarded = record { is = λ v. refl; kept = λ v s. increment-sound v x s }

module _ (t : Target) (counters : Counters) (x : CounterChange) (admits : Admits (λ v. counter_tests x.counter) t (Ok tt)) where
  pub set-met : counters.slots ≡ set t.counters.slots x.counter (record { success = x.success; failure = x.failure })
      → Met (λ v. set_counter v x) t tt DONE (counters_left t counters) tt
  set-met e = done-kept (set-guarded x) t (counters_left t counters) tt DONE admits (counter-done t counters x.counter _ (admits.fits refl) e)

  pub increment-met : counters.slots ≡ set t.counters.slots x.counter (increased (counter_at t.counters.slots x.counter) x.success x.failure)
      → Met (λ v. increment v x) t tt DONE (counters_left t counters) tt
  increment-met e =
      done-kept (increment-guarded x) t (counters_left t counters) tt DONE admits (counter-done t counters x.counter _ (admits.fits refl) e)

-- ## The calls that only read

pub counter-guarded : (k : ℕ)
    → GuardedRead (λ v. read_counter v k) (λ v. COUNTER (counter_at v.counters k).success (counter_at v.counters k).failure) (λ v. counter_tests k)
unfolding read_counter
counter-guarded k = record { is = λ v. refl }

pub register-guarded : (k : ℕ)
    → GuardedRead (λ v. read_register v k) (λ v. REGISTER (register_at v.registers k)) (λ v. good_arguments (bad_register_argument k) ∷ [])
unfolding read_register
register-guarded k = record { is = λ v. refl }

pub ready-guarded : (x : CounterTest)
    → GuardedRead (λ v. ready v x) (λ v. cond (is_ready (counter_at v.counters x.counter) x.test) READY NOT_READY) (λ v. counter_tests x.counter)
unfolding ready
ready-guarded x = record { is = λ v. refl }

pub poll-guarded : (ks tests : List ℕ)
    → GuardedRead (λ v. poll v ks tests) (λ v. reached_answer (reached_from v.counters 0 ks tests)) (λ v. good_arguments (bad_poll_argument ks tests) ∷ [])
unfolding poll
poll-guarded ks tests = record { is = λ v. refl }

-- ## The event queue

abbrev queue_left : Target → Queue → Target
queue_left t queue = record {
  size = t.size;
  last = t.last;
  entries = t.entries;
  unexpected = t.unexpected;
  queue = queue;
  counters = t.counters;
  registers = t.registers;
}

-- what is left: without the oldest event if there is one, else nothing changes
event-done : (t : Target) (queue : Queue) (taken : Option Event)
    → TargetFits t
    → Taken t.queue taken queue
    → Done (event_taken (view_of t)) (queue_left t queue) tt (read_as taken)
event-done t queue None f k = record {
  answers = rw k.0;
  granted = oldest-answers (queue_of t.queue).events;
  state = rw (k.1, k.0);
  buffer = refl;
  counts = rw k.1 (fits-counts t f);
}
event-done t queue (Some e) f k = record {
  answers = rw k.0;
  granted = oldest-answers (queue_of t.queue).events;
  state = ap (with_queue (view_of t)) k.1.held;
  buffer = refl;
  counts = fits-counts (queue_left t queue) (record { entries = f.entries; unexpected = f.unexpected; queue = k.1.fits });
}

pub read-event-guarded : Guarded read_event event_taken (λ v. []) tt
unfolding read_event
read-event-guarded = record { is = λ v. refl; kept = read-event-sound }

pub read-event-met : (t : Target) (queue : Queue) (taken : Option Event)
    → Admits (λ v. []) t (Ok tt)
    → Taken t.queue taken queue
    → Met read_event t tt (read_as taken) (queue_left t queue) tt
read-event-met t queue taken admits k =
    done-kept read-event-guarded t (queue_left t queue) tt (read_as taken) admits (event-done t queue taken (admits.fits refl) k)

-- ## Unlink

abbrev entries_left : Target → Entries → Target
entries_left t entries = record {
  size = t.size;
  last = t.last;
  entries = entries;
  unexpected = t.unexpected;
  queue = t.queue;
  counters = t.counters;
  registers = t.registers;
}

pub unlink-guarded : (handle : ℕ) → Guarded (λ v. unlink v handle) (λ v. unlinked v handle) (λ v. unlink_tests v handle) tt
unfolding unlink
unlink-guarded handle = record { is = λ v. refl; kept = λ v s. unlink-sound v handle s }

-- the entry at the place goes
pub unlink-met : (t : Target) (handle : ℕ) (entries : Entries) (at : ℕ)
    → Unlinks t handle at
    → EntriesHold entries (remove_at at (entries_of t.entries))
    → Met (λ v. unlink v handle) t tt DONE (entries_left t entries) tt
unlink-met t handle entries at u h =
    let f = u.admits.fits refl in
    done-kept (unlink-guarded handle) t (entries_left t entries) tt DONE u.admits
    (record {
      answers = refl;
      granted = refl;
      state = ap (with_entries (view_of t)) (h.held ∙ u.without);
      buffer = refl;
      counts = fits-counts (entries_left t entries) (record { entries = h.fits; unexpected = f.unexpected; queue = f.queue });
    })

-- ## A new target

-- the argument that alone is tested is the bad one
pub alone-bad : (passed : Bool) (argument bad : BadArgument)
    → ◌≡◌ {A = Result Unit BadArgument} (cond passed (Ok tt) (Err argument)) (Err bad)
    → ◌≡◌ {A = Result Unit BadArgument} (cond passed (Ok tt) (Err argument)) (Err argument)
alone-bad true argument bad e = absurd (false≢true (sym (ap is_ok e)))
alone-bad false argument bad e = refl

-- it is empty, of a size
new-as : (s : Settings) (size : ℕ) (answer : Result Unit Refusal)
    → new_answer answer ≡ (new s).answer
    → (new s).state ≡ empty_view size
    → NewMet s (record { target = empty_target size; answer = answer })
new-as s size answer answers state =
    let same : size ≡ (new s).state.size = sym (ap (λ (v : View). v.size) state) in
    let empty : sound_view (empty_view size) ≡ true = subst (λ (v : View). sound_view v ≡ true) state (facts-sound (new s).state (new-sound s)) in
    record {
      answer = answers;
      target = ap empty_target same;
      state = seen-sound (empty_target size) (sound-joined (empty_target size) refl empty) ∙ ap sound (sym state);
    }

-- of size 0 beside a refusal
pub new-refused : (s : Settings) → bad_setting s ≡ Err BadArgument.Size → NewMet s (record { target = empty_target 0; answer = Err Refusal.ArgInvalid })
unfolding new
new-refused s e = new-as s 0 (Err Refusal.ArgInvalid) (rw e) (rw e)

-- and of the size that is taken
pub new-made : (s : Settings) → bad_setting s ≡ Ok tt → NewMet s (record { target = empty_target s.size; answer = Ok tt })
unfolding new
new-made s e = new-as s s.size (Ok tt) (rw e) (rw e)
