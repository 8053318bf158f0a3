-- The loop posts SEARCH for one header after the other.
use Rattle.std.proofs.Common.{map}
use Rattle.state.specs.View.{queue_of}
use Rattle.state.specs.Events.{search_event}
use Rattle.early.proofs.PostingLaws.{Posting}
use Rattle.early.proofs.lists.queue_searched.Given as goal

abbrev pub invariant-loop-h : goal.invariant-loop-h
invariant-loop-h l = Posting (λ r. map (search_event l.e) r) l.found (queue_of l.initial.q) l.q l.h-index
