-- Of the entries that are kept there are no more than before, so that one more finds room.
use Rattle.std.proofs.Common.{rules}
use Rattle.early.specs.Parts.{walk_of}
use Rattle.early.proofs.HandlingLaws.{room-kept}
use Rattle.early.proofs.handling.change_entries.Goals as goal

pub add-requires-clause-count_bound : goal.add-requires-clause-count_bound
add-requires-clause-count_bound c =
    room-kept c.args.es.now _ (walk_of c.args.found.now.entry.now c.args.found.now.headers.now c.args.found.now.walked) c.requires.entries_allow.fits c.keep_entries-in-Link.ensures.held (search rules)
