use Rattle.portals.proofs.AdmitLaws.{lists-equal}
use Rattle.portals.proofs.MetLaws.{handed-on, read-refused, read-done}
use Rattle.portals.proofs.PartCalls.{poll-guarded}
use Rattle.portals.proofs.poll.poll.Goals as goal

pub returns-in_err-admit : goal.returns-in_err-admit
returns-in_err-admit c =
    rw (handed-on _ _ c.from_residual.ensures.1)
    (read-refused (poll-guarded c.args.ks.now c.args.tests.now) c.args.t.now _ (rw c.test_lists.ensures at c.in_err-admit.ensures))

pub lowest_reached-requires : goal.lowest_reached-requires
lowest_reached-requires c =
    let admits = rw c.test_lists.ensures at c.in_ok-admit.ensures in
    lists-equal c.args.ks.now c.args.tests.now c.args.t.now admits.answer

pub returns : goal.returns
returns c =
    read-done (poll-guarded c.args.ks.now c.args.tests.now) c.args.t.now _ (rw c.test_lists.ensures at c.in_ok-admit.ensures)
    (rw c.lowest_reached.ensures)
