use Rattle.portals.proofs.MetLaws.{handed-on, read-refused, read-done}
use Rattle.portals.proofs.PartCalls.{ready-guarded}
use Rattle.portals.proofs.counters.ready.Goals as goal

pub returns-in_err-admit : goal.returns-in_err-admit
returns-in_err-admit c =
    rw (handed-on _ _ c.from_residual.ensures.1)
    (read-refused (ready-guarded c.args.asked) c.args.t.now _ (rw c.test_counter.ensures at c.in_err-admit.ensures))

pub returns : goal.returns
returns c =
    read-done (ready-guarded c.args.asked) c.args.t.now _ (rw c.test_counter.ensures at c.in_ok-admit.ensures)
    (rw (c.is_ready.ensures, c.at-c.ensures))
