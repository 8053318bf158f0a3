use Rattle.std.proofs.Common.{sym}
use Rattle.portals.proofs.MetLaws.{handed-on}
use Rattle.portals.proofs.PartCalls.{alone-bad, new-refused, new-made}
use Rattle.portals.proofs.making.new.Goals as goal

pub returns-in_err-test_argument : goal.returns-in_err-test_argument
returns-in_err-test_argument c =
    rw (handed-on _ _ c.from_residual.ensures.1, c.empty.ensures)
    (new-refused c.args.s (alone-bad _ _ _ (sym c.in_err-test_argument.ensures)))

pub returns : goal.returns
returns c = rw c.empty.ensures (new-made c.args.s (sym c.in_ok-test_argument.ensures))
