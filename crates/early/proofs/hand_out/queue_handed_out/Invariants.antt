-- The loop looks at one header after the other, and hands out those that fit.
use Rattle.std.proofs.Common.{◌≡◌, []}
use Rattle.state.specs.View.{queue_of}
use Rattle.early.specs.Parts.{walk_of}
use Rattle.early.proofs.PostingLaws.{Posting}
use Rattle.early.proofs.HandOutLaws.{handing}
use Rattle.early.proofs.hand_out.queue_handed_out.Given as goal

abbrev pub invariant-loop-i : goal.invariant-loop-i
invariant-loop-i l =
    Posting (handing l.found.entry.now l.owner l.entries (walk_of l.found.entry.now l.found.headers.now l.found.walked).left) l.part (queue_of l.initial.q) l.q l.i
    × (l.part ≡ [] → l.q ≡ l.initial.q)
