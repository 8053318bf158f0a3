-- What was found comes first; then what closes the search, or LINK.
use Rattle.std.proofs.Common.{[], ◌∷◌, map}
use Rattle.state.specs.View.{queue_of}
use Rattle.state.specs.Events.{link_event, search_event}
use Rattle.state.proofs.PostLaws.{issued-posted, then-posted}
use Rattle.early.specs.HandOut.{hand_out_events}
use Rattle.early.specs.Handling.{closing_events}
use Rattle.early.proofs.lists.queue_events.Goals as goal

pub returns-in-Look : goal.returns-in-Look
returns-in-Look c =
    rw c.in-Look.is
    (then-posted _ _ (queue_of c.args.q.now) (map (search_event c.args.e.now) c.args.found.now)
    (closing_events c.args.e.now (record { found = c.args.found.now; left = c.args.left.now })) c.queue_searched.ensures (c.queue_closed.ensures c.args.left.now))

pub returns-in-Delete : goal.returns-in-Delete
returns-in-Delete c =
    rw c.in-Delete.is
    (then-posted _ _ (queue_of c.args.q.now) (hand_out_events c.args.e.now 0 c.args.entries.now c.args.left.now c.args.found.now)
    (closing_events c.args.e.now (record { found = c.args.found.now; left = c.args.left.now })) c.queue_handed_out_lists.ensures (c.queue_closed-in-Delete.ensures c.args.left.now))

pub returns-in-Link : goal.returns-in-Link
returns-in-Link c =
    let handle = c.in-Link.handle in
    let link = link_event c.args.e.now handle in
    rw c.in-Link.is
    (then-posted _ _ (queue_of c.args.q.now) (hand_out_events c.args.e.now handle c.args.entries.now c.args.left.now c.args.found.now) (link ∷ [])
    c.queue_handed_out_lists-in-Link.ensures (issued-posted _ (queue_of c.queue_handed_out_lists-in-Link.new.q) _ link c.link_event.ensures c.post.ensures.held))
