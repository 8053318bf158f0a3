-- Each part is what its function leaves, whatever that function says of the list that it does not take.
use Rattle.std.proofs.Common.{refl}
use Rattle.early.proofs.lists.change_parts.Goals as goal

pub returns : goal.returns
returns c = record {
  size = refl;
  last = c.last_after-t.ensures;
  entries = c.change_entries.ensures c.args.found.now;
  unexpected = c.change_headers.ensures c.args.found.now;
  queue = rw c.in_use.ensures at c.queue_events.ensures;
  counters = c.change_counters.ensures c.args.left.now;
  registers = refl;
}
