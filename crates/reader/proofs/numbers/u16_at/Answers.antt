use mathlib.Core.Path.{◌∙◌}
use Rattle.reader.proofs.NumberLaws.{number_read}
use Rattle.reader.proofs.numbers.u16_at.Goals as goal

pub returns : goal.returns
returns c =
    c.from_le_bytes.ensures
    ∙ number_read c.args.s.now c.unwrap.result c.args.at 1 c.requires (rw c.unwrap.ensures at c.try_into.ensures).1.same
