-- A number below 2 ^ 32 has no bit 32 or above.
use Rattle.std.proofs.Common.{rules}
use Rattle.matching.proofs.BitLaws.{no-bit}
use Rattle.matching.proofs.entry.is_set.Goals as goal

pub returns-else-bit-lt32 : goal.returns-else-bit-lt32
returns-else-bit-lt32 c = no-bit c.args.options c.args.bit 32 (search rules) (search rules)
