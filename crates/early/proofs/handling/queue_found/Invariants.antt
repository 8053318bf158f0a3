-- The loop posts SEARCH for one header after the other.
use Rattle.std.proofs.Common.{◌≡◌, [], map}
use Rattle.state.specs.View.{queue_of}
use Rattle.state.specs.Events.{search_event}
use Rattle.state.specs.Lists.{select}
use Rattle.early.specs.Walk.{fits_header}
use Rattle.early.proofs.PostingLaws.{Posting}
use Rattle.early.proofs.handling.queue_found.Given as goal

abbrev pub invariant-loop-h : goal.invariant-loop-h
invariant-loop-h l =
    Posting (λ r. map (search_event l.e) (select (fits_header l.e) r)) l.part (queue_of l.initial.q) l.q l.h-index
    × (l.part ≡ [] → l.q ≡ l.initial.q)
