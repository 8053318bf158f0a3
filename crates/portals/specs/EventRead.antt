-- Document 01, "Events": reading the queue.
use Rattle.std.specs.Prelude.{List, [], ◌∷◌}
use Rattle.state.specs.Events.{without_oldest}
use Rattle.state.specs.View.{View, with_queue}
use Rattle.state.specs.declared.layout.Event.{Event}
use Rattle.portals.specs.Answers.{Answer, EVENT, NONE}
use Rattle.portals.specs.Outcome.{Outcome, guarded}

-- "Reading returns the oldest, or NONE."
abbrev pub oldest_of : List Event → Answer
oldest_of [] = NONE
oldest_of (e ∷ rest) = EVENT e

abbrev pub event_taken : View → Outcome View Unit
event_taken v =
    record { answer = oldest_of v.queue.events; state = with_queue v (without_oldest v.queue); buffer = tt }

-- it has no argument to refuse
unfoldable pub read_event : View → Outcome View Unit
read_event v = guarded v tt [] (event_taken v)
