-- The loop looks at one entry after the other, and posts AUTO_FREE of the one that becomes free.
use Rattle.state.specs.View.{queue_of}
use Rattle.early.specs.Parts.{free_events}
use Rattle.early.proofs.PostingLaws.{Posting}
use Rattle.early.proofs.hand_out.queue_freed.Given as goal

abbrev pub invariant-loop-x : goal.invariant-loop-x
invariant-loop-x l = Posting (free_events l.handle) l.entries (queue_of l.initial.q) l.q l.x-index
