-- Where nothing was found all keep their slot.
use Rattle.std.proofs.Common.{sym, ◌∙◌}
use Rattle.state.specs.View.{entries_of}
use Rattle.state.specs.Soundness.{keeps_slot}
use Rattle.early.specs.Parts.{walk_of}
use Rattle.early.proofs.HandOutLaws.{select-all}
use Rattle.early.proofs.hand_out.keep_entries.Goals as goal

pub returns-else-finds-clause-held : goal.returns-else-finds-clause-held
returns-else-finds-clause-held c = record {
  held =
      sym (select-all (keeps_slot (walk_of c.args.found.now.entry.now c.args.found.now.headers.now c.args.found.now.walked).left) (entries_of c.args.es.now)
      (c.requires.kept (sym c.finds.ensures ∙ c.if-finds.false)));
  fits = c.requires.fits;
}
