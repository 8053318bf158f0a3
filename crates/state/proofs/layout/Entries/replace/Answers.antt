-- The entry is stored in a slot in use.
use Rattle.state.proofs.SlotLaws.{replaced}
use Rattle.state.proofs.layout.Entries.replace.Goals as goal

pub returns-clause-held : goal.returns-clause-held
returns-clause-held c = let es = c.args.self.now in replaced es.slots es.count c.args.at c.args.x c.requires.entries_fit c.requires.at_lt_count
