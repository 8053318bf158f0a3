-- The local offset stays within the length.
use Rattle.std.proofs.Common.{arith}
use Rattle.matching.proofs.RequestLaws.{local-length}
use Rattle.requests.proofs.plan.planned.Goals as goal

pub overflow_cast-result : goal.overflow_cast-result
overflow_cast-result c =
    let x = c.args.x.now in
    let l = c.local_after.ensures in
    let n = local-length x.entry x.local c.args.a.now c.requires.local in
    let r = c.requires.region in
    rw l (omega arith)
