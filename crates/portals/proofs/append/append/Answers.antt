-- What the walk found decides the answer, and the answer what is left of the target.
use Rattle.state.specs.View.{headers_of}
use Rattle.portals.proofs.MetLaws.{handed-on, refused-kept}
use Rattle.portals.proofs.EarlyMet.{append-guarded, walked-allows, append-met}
use Rattle.portals.specs.EarlyMessages.{append_tests}
use Rattle.portals.proofs.append.append.Goals as goal

pub returns-in_err-append_admitted : goal.returns-in_err-append_admitted
returns-in_err-append_admitted c =
    rw (handed-on _ _ c.from_residual.ensures.1) (refused-kept (append-guarded c.args.e) c.args.t.now _ c.in_err-append_admitted.ensures)

pub handle-requires-clause-target_allows : goal.handle-requires-clause-target_allows
handle-requires-clause-target_allows c =
    walked-allows (λ v. append_tests v c.args.e) c.args.t.now _ c.args.e c.walk_if-w.result c.in_ok-append_admitted.ensures
    (rw c.in_use.ensures at c.walk_if-w.ensures)

pub returns : goal.returns
returns c =
    let walked = rw c.in_use.ensures at c.walk_if-w.ensures in
    rw c.taken_or_linked-answer.ensures
    (append-met c.args.t.now c.handle.new.t c.args.e c.walk_if-w.result c.found_once-taken.result c.in_ok-append_admitted.ensures
    walked (c.found_once-taken.ensures (headers_of c.args.t.now.unexpected) walked.fits)
    (rw (c.append_handling.ensures, c.taken_or_linked-answer.ensures) at c.handle.ensures.held))
