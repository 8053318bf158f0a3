-- The calls that change at most one part of a target leave a sound state sound, and a new target is sound.
use Rattle.std.specs.Prelude.{Ok}
use mathlib.Core.Path.{◌≡◌, refl}
use mathlib.Core.Bool.{true, false}
use mathlib.Core.List.{List, [], ◌∷◌}
use Prim.Native.Nat.{ℕ, ◌≤◌}
use native.Mathlib.Omega.{arith}
use borrow.Author.Tests.{leb-true}
use lib.Dec.{leb}
use lib.ListN.{length, length-drop}
use Rattle.matching.specs.Refusals.{none_bad}
use Rattle.matching.specs.declared.refusals.BadArgument.TheVariants as BadArgument
use Rattle.state.specs.Sizes.{MEMORY, EVENTS}
use Rattle.state.specs.View.{View, empty_view}
use Rattle.state.specs.Events.{without_oldest}
use Rattle.state.specs.declared.layout.Settings.{Settings}
use Rattle.state.specs.declared.layout.Event.{Event}
use Rattle.state.specs.declared.layout.Counter.{Counter}
use Rattle.state.specs.declared.layout.CounterChange.{CounterChange}
use Rattle.state.proofs.SoundLaws.{Sound, good-both}
use Rattle.state.proofs.KeptLaws.{counters-kept, queue-kept}
use Rattle.portals.specs.Refusals.{good_arguments}
use Rattle.portals.specs.Answers.{MADE, is_refused}
use Rattle.portals.specs.Outcome.{Outcome, refusal, guarded}
use Rattle.portals.specs.Making.{not_made, bad_setting, new}
use Rattle.portals.specs.EventRead.{oldest_of, read_event}
use Rattle.portals.specs.CounterCalls.{counter_tests, set_counter, increment, counter_done}
use Rattle.portals.proofs.GuardLaws.{guard-cases}

pub read-event-sound : (v : View) → Sound v → Sound (read_event v).state
unfolding read_event
read-event-sound v s =
    let n : length v.queue.events ≤ EVENTS = s.queued in
    queue-kept v (without_oldest v.queue) s (simp length-drop (omega arith))

counter-sound : (v : View) (k : ℕ) (c : Counter) → Sound v → Sound (guarded v tt (counter_tests k) (counter_done v k c)).state
counter-sound v k c s =
    guard-cases (λ o. Sound o.state) (refusal v tt) (counter_tests k) (counter_done v k c) (λ r. s) (λ passed. counters-kept v _ s)

pub set-sound : (v : View) (x : CounterChange) → Sound v → Sound (set_counter v x).state
unfolding set_counter
set-sound v x s = counter-sound v x.counter _ s

pub increment-sound : (v : View) (x : CounterChange) → Sound v → Sound (increment v x).state
unfolding increment
increment-sound v x s = counter-sound v x.counter _ s

-- an empty target is sound if its size is
empty-sound : (size : ℕ) → size ≤ MEMORY → Sound (empty_view size)
empty-sound size h = record {
  size = h;
  slots = omega arith;
  waiting = omega arith;
  queued = omega arith;
  handles = refl;
  entries = refl;
  headers = refl;
  retired = refl;
}

setting-fits : (c : Settings) → none_bad (bad_setting c) ≡ true → c.size ≤ MEMORY
setting-fits c e = leb-true c.size MEMORY (good-both (leb c.size MEMORY) (Ok tt) BadArgument.Size e).0

pub new-sound : (c : Settings) → Sound (new c).state
unfolding new
new-sound c =
    guard-cases (λ (o : Outcome View Unit). Sound o.state) not_made
    (good_arguments (bad_setting c) ∷ [])
    (record { answer = MADE; state = empty_view c.size; buffer = tt })
    (λ r. let fits : (not_made r).state.size ≤ MEMORY = omega arith in empty-sound (not_made r).state.size fits)
    (λ passed. empty-sound c.size (setting-fits c passed.0))

-- an event read on a sound state is no refusal
pub oldest-answers : (events : List Event) → is_refused (oldest_of events) ≡ false
oldest-answers [] = refl
oldest-answers (e ∷ rest) = refl
