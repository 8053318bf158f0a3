-- The loop looks at one header after the other, and hands each out.
use Rattle.state.specs.View.{queue_of}
use Rattle.early.specs.HandOut.{hand_out_events}
use Rattle.early.proofs.PostingLaws.{Posting}
use Rattle.early.proofs.hand_out.queue_handed_out_lists.Given as goal

abbrev pub invariant-loop-i : goal.invariant-loop-i
invariant-loop-i l = Posting (hand_out_events l.e l.owner l.entries l.left) l.found (queue_of l.initial.q) l.q l.i
