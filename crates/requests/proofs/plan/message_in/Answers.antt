-- The place is within the region.
use Rattle.std.proofs.Common.{rules}
use Rattle.matching.proofs.RequestLaws.{place_end}
use Rattle.requests.proofs.plan.message_in.Goals as goal

pub overflow_cast-result : goal.overflow_cast-result
overflow_cast-result c = search (rules, place_end c.args.x.now.entry c.args.x.now.local c.args.a.now)
