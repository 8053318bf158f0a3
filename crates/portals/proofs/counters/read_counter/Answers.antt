use Rattle.portals.proofs.MetLaws.{handed-on, read-refused, read-done}
use Rattle.portals.proofs.PartCalls.{counter-guarded}
use Rattle.portals.proofs.counters.read_counter.Goals as goal

pub returns-in_err-admit : goal.returns-in_err-admit
returns-in_err-admit c =
    rw (handed-on _ _ c.from_residual.ensures.1)
    (read-refused (counter-guarded c.args.k) c.args.t.now _ (rw c.test_counter.ensures at c.in_err-admit.ensures))

pub returns : goal.returns
returns c = read-done (counter-guarded c.args.k) c.args.t.now _ (rw c.test_counter.ensures at c.in_ok-admit.ensures) (rw c.at.ensures)
