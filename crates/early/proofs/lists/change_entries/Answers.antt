-- Of the entries that are kept there are no more than before, so that one more finds room.
use Rattle.std.proofs.Common.{[], rules}
use Rattle.early.proofs.HandlingLaws.{room-kept}
use Rattle.early.proofs.lists.change_entries.Goals as goal

pub add-requires-clause-count_bound : goal.add-requires-clause-count_bound
add-requires-clause-count_bound c =
    room-kept c.args.es.now _ (record { found = []; left = c.args.left.now }) c.requires.entries_fit c.keep_entries_lists-in-Link.ensures (search rules)
