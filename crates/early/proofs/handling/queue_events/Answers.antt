-- What was found comes first; then what closes the search, or LINK.
use Rattle.std.proofs.Common.{[], ◌∷◌, map}
use Rattle.state.specs.View.{queue_of}
use Rattle.state.specs.Events.{link_event, search_event}
use Rattle.state.proofs.PostLaws.{issued-posted, then-posted}
use Rattle.early.specs.HandOut.{hand_out_events}
use Rattle.early.specs.Handling.{closing_events}
use Rattle.early.specs.Parts.{walk_of}
use Rattle.early.proofs.handling.queue_events.Goals as goal

pub returns-in-Look-clause-held : goal.returns-in-Look-clause-held
returns-in-Look-clause-held c =
    let w = walk_of c.args.found.now.entry.now c.args.found.now.headers.now c.args.found.now.walked in
    rw c.in-Look.is
    (then-posted _ _ (queue_of c.args.q.now) (map (search_event c.args.found.now.entry.now) w.found) (closing_events c.args.found.now.entry.now w)
    (rw c.part.ensures at c.queue_found.ensures.held) c.queue_closed.ensures.held)

pub returns-in-Delete-clause-held : goal.returns-in-Delete-clause-held
returns-in-Delete-clause-held c =
    let w = walk_of c.args.found.now.entry.now c.args.found.now.headers.now c.args.found.now.walked in
    rw c.in-Delete.is
    (then-posted _ _ (queue_of c.args.q.now) (hand_out_events c.args.found.now.entry.now 0 c.args.entries.now w.left w.found) (closing_events c.args.found.now.entry.now w)
    c.queue_handed_out.ensures.held c.queue_closed-in-Delete.ensures.held)

pub returns-in-Link-clause-held : goal.returns-in-Link-clause-held
returns-in-Link-clause-held c =
    let w = walk_of c.args.found.now.entry.now c.args.found.now.headers.now c.args.found.now.walked in
    let handle = c.in-Link.handle in
    let link = link_event c.args.found.now.entry.now handle in
    rw c.in-Link.is
    (then-posted _ _ (queue_of c.args.q.now) (hand_out_events c.args.found.now.entry.now handle c.args.entries.now w.left w.found) (link ∷ [])
    c.queue_handed_out-in-Link.ensures.held (issued-posted _ (queue_of c.queue_handed_out-in-Link.new.q) _ link c.link_event.ensures c.post.ensures.held))
