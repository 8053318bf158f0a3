-- Every row of the table holds, by computation; that min_free 0 never unlinks, by a comparison with 0.
use mathlib.Core.Path.{◌≡◌, refl}
use mathlib.Core.Bool.{Bool, true, false, ◌&&◌}
use Prim.Native.Nat.{ℕ, ◌-◌}
use native.Mathlib.Omega.{arith}
use borrow.Author.Tests.{le-ltb}
use Rattle.matching.specs.Bits.{is_set}
use Rattle.matching.specs.Entry.{USE_ONCE, MANAGE_LOCAL, bad_entry_argument}
use Rattle.matching.specs.Request.{bad_request_argument, offset_used, available, bits_agree, allows_length, matches, verdict_on, accepted, place, local_after, unlinks, ack_given}
use Rattle.matching.specs.EarlyMessages.{takes_headers, fits}
use Rattle.matching.specs.Events.{disabled}
use Rattle.matching.specs.Counters.{amount}
use Rattle.matching.specs.declared.layout.Entry.{Entry}
use Rattle.matching.specs.declared.request.Arrival.{Arrival}
use Rattle.state.specs.Soundness.{sound_view}
use Rattle.state.specs.Events.{post}
use Rattle.state.specs.Counters.{counted}
use Rattle.requests.specs.Choice.{choose}
use Rattle.requests.specs.Plan.{message}
use Rattle.requests.specs.Decision.{decide}
use Rattle.early.specs.Walk.{walk_for}
use Rattle.portals.specs.EventRead.{read_event}
use Rattle.portals.specs.CounterCalls.{set_counter, increment, read_counter}
use Rattle.portals.specs.Request.{put}
use Rattle.portals.specs.EarlyMessages.{append}
use Rattle.claims.specs.BenchCases.{AllHold, done, ◌then◌, table}

and-false : (x : Bool) → (x && false) ≡ false
and-false true = refl
and-false false = refl

never-unlinks : (e : Entry) (local : ℕ) (a : Arrival) → e.minfree ≡ 0 → is_set e.options USE_ONCE ≡ false → unlinks e local a ≡ false
unfolding unlinks
never-unlinks e local a free once =
    rw (once, le-ltb (e.length - local_after e local a) e.minfree (omega arith)) (and-false (is_set e.options MANAGE_LOCAL))

pub cases_hold : AllHold table
unfolding bad_entry_argument bad_request_argument offset_used available bits_agree allows_length matches verdict_on accepted place local_after unlinks ack_given takes_headers fits disabled amount sound_view post read_event counted set_counter increment read_counter choose decide message put walk_for append
cases_hold =
    refl
    then refl
    then refl
    then refl
    then refl
    then refl
    then refl
    then refl
    then refl
    then refl
    then never-unlinks
    then refl
    then refl
    then refl
    then refl
    then refl
    then refl
    then refl
    then refl
    then refl
    then refl
    then refl
    then done
