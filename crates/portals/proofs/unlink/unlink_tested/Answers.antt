-- The tests in their order: each way out is the first refusal, or all are passed.
use Rattle.std.proofs.Common.{◌≡◌, sym, arith}
use Rattle.std.specs.Prelude.{None, Some}
use Rattle.portals.proofs.MetLaws.{handed-on}
use Rattle.portals.proofs.AdmitLaws.{unlinked-refused, used-refused, unlinks-at}
use Rattle.portals.proofs.unlink.unlink_tested.Goals as goal

pub returns-in_err-at : goal.returns-in_err-at
returns-in_err-at c =
    let none : c.linked_place.result ≡ None = grind arith in
    rw (handed-on _ _ c.from_residual-in_err-at.ensures.1)
    (unlinked-refused c.args.t.now c.args.handle c.in_ok-test_state.ensures (sym (rw (none, c.in_use.ensures) at c.linked_place.ensures)))

pub returns-then-is_named : goal.returns-then-is_named
returns-then-is_named c =
    let there : c.linked_place.result ≡ Some c.in_ok-at.at = grind arith in
    used-refused c.args.t.now c.args.handle c.in_ok-test_state.ensures c.in_ok-at.at
    (sym (rw (there, c.in_use.ensures) at c.linked_place.ensures))
    (sym (rw c.in_use-2.ensures at c.if-is_named.ensures))

pub returns : goal.returns
returns c =
    let there : c.linked_place.result ≡ Some c.in_ok-at.at = grind arith in
    unlinks-at c.args.t.now c.args.handle c.in_ok-test_state.ensures c.in_ok-at.at
    (sym (rw (there, c.in_use.ensures) at c.linked_place.ensures))
    (sym (rw c.in_use-2.ensures at c.if-is_named.ensures))
