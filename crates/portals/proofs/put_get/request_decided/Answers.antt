-- A request whose tests are passed asks for no more than 32 bits hold.
use native.Mathlib.Omega.{arith}
use Rattle.portals.specs.Request.{request_tests}
use Rattle.portals.proofs.AdmitLaws.{admitted-passed}
use Rattle.portals.proofs.RequestCalls.{requested-fits}
use Rattle.portals.proofs.put_get.request_decided.Goals as goal

pub overflow_cast-requested : goal.overflow_cast-requested
overflow_cast-requested c =
    let a = c.args in
    let passed = admitted-passed a.t.now (λ v. request_tests v a.size a.q.now a.requested) c.in_ok-request_admitted.ensures.answer in
    let fits = requested-fits a.q.now a.requested passed.1.0 in
    omega arith
