-- The law over the width, at 64.
use Rattle.std.proofs.Common.{rules}
use Rattle.matching.specs.Request.{bits_agree}
use Rattle.matching.proofs.BitLaws.{agree-is}
use Rattle.matching.proofs.request.bits_agree.Goals as goal

pub returns : goal.returns
unfolding bits_agree
returns c = agree-is 64 c.args.own c.args.ignored c.args.incoming (search rules)
