-- A call that does not walk finds none.
use Rattle.early.proofs.WalkLaws.{no-walk-holds}
use Rattle.early.proofs.walk.walk_if.Goals as goal

pub returns-then-walks : goal.returns-then-walks
returns-then-walks c = rw c.if-walks.true c.walk_for.ensures

pub returns-else-walks : goal.returns-else-walks
returns-else-walks c = rw c.if-walks.false (no-walk-holds c.args.e.now c.args.headers.now)
