use Rattle.portals.proofs.MetLaws.{handed-on, refused-kept}
use Rattle.portals.proofs.PartCalls.{set-guarded, set-met}
use Rattle.portals.proofs.counters.set_counter.Goals as goal

pub returns-in_err-admit : goal.returns-in_err-admit
returns-in_err-admit c =
    rw (handed-on _ _ c.from_residual.ensures.1)
    (refused-kept (set-guarded c.args.to) c.args.t.now _ (rw c.test_counter.ensures at c.in_err-admit.ensures))

pub returns : goal.returns
returns c = set-met c.args.t.now c.set.new.self c.args.to (rw c.test_counter.ensures at c.in_ok-admit.ensures) c.set.ensures
