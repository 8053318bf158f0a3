use Rattle.portals.proofs.MetLaws.{handed-on, refused-kept}
use Rattle.portals.proofs.PartCalls.{unlink-guarded, unlink-met}
use Rattle.portals.proofs.unlink.unlink.Goals as goal

pub returns-in_err-at : goal.returns-in_err-at
returns-in_err-at c =
    rw (handed-on _ _ c.from_residual.ensures.1) (refused-kept (unlink-guarded c.args.handle) c.args.t.now _ c.in_err-at.ensures)

pub returns : goal.returns
returns c = unlink-met c.args.t.now c.args.handle c.remove.new.self _ c.in_ok-at.ensures c.remove.ensures
