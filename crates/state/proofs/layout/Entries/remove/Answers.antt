-- Those after the entry that goes move up.
use Rattle.state.proofs.SlotLaws.{removed}
use Rattle.state.proofs.layout.Entries.remove.Goals as goal

pub returns : goal.returns
returns c = removed _ _ c.args.at c.requires.entries_fit c.requires.at_lt_count c.copy_within.ensures.after c.copy_within.ensures.len
