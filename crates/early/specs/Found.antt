-- A walk with its headers and its entry. No promise of a call cites this.
use Rattle.std.specs.Prelude.{◌≡◌, true, false}
use Rattle.state.specs.Lists.{every}
use Rattle.state.specs.View.{entries_of}
use Rattle.state.specs.Soundness.{keeps_slot}
use Rattle.state.specs.Parts.{EntriesFit}
use Rattle.state.specs.declared.layout.Header.{Header}
use Rattle.state.specs.declared.layout.Entries.{Entries}
use Rattle.early.specs.Walk.{Walk}
use Rattle.early.specs.Parts.{finds, walk_of}
use Rattle.early.specs.declared.found.Found.{Found}

-- what it found and left
abbrev pub walk_in : Found → Walk Header
walk_in f = walk_of f.entry.now f.headers.now f.walked

-- what is asked of the entries: that they fit, and that all keep their slot where no header was found
pub record EntriesAllow (es : Entries) (f : Found) : Type 0 where
  pub fits : EntriesFit es
  pub kept : finds f.walked ≡ false → every (keeps_slot (walk_in f).left) (entries_of es) ≡ true
