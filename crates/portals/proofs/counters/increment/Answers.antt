use Rattle.portals.proofs.MetLaws.{handed-on, refused-kept}
use Rattle.portals.proofs.PartCalls.{increment-guarded, increment-met}
use Rattle.portals.proofs.counters.increment.Goals as goal

pub returns-in_err-admit : goal.returns-in_err-admit
returns-in_err-admit c =
    rw (handed-on _ _ c.from_residual.ensures.1)
    (refused-kept (increment-guarded c.args.x) c.args.t.now _ (rw c.test_counter.ensures at c.in_err-admit.ensures))

pub returns : goal.returns
returns c =
    increment-met c.args.t.now c.set.new.self c.args.x (rw c.test_counter.ensures at c.in_ok-admit.ensures)
    (rw (c.increased_by-c.ensures, c.at.ensures) at c.set.ensures)
