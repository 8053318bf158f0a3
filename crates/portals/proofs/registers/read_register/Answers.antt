use Rattle.portals.proofs.MetLaws.{handed-on, read-refused, read-done}
use Rattle.portals.proofs.PartCalls.{register-guarded}
use Rattle.portals.proofs.registers.read_register.Goals as goal

pub returns-in_err-admit : goal.returns-in_err-admit
returns-in_err-admit c =
    rw (handed-on _ _ c.from_residual.ensures.1)
    (read-refused (register-guarded c.args.k) c.args.t.now _ (rw c.test_register.ensures at c.in_err-admit.ensures))

pub returns : goal.returns
returns c = read-done (register-guarded c.args.k) c.args.t.now _ (rw c.test_register.ensures at c.in_ok-admit.ensures) (rw c.at.ensures)
