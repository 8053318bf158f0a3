-- Its mode decides what is left of the target.
use mathlib.Core.Bool.{true}
use Rattle.portals.specs.EarlyMessages.{search_tests}
use Rattle.portals.proofs.MetLaws.{handed-on, refused-kept}
use Rattle.portals.proofs.EarlyMet.{search-guarded, search-admits, walked-allows, search-met}
use Rattle.portals.proofs.search.search.Goals as goal

pub returns-in_err-admit : goal.returns-in_err-admit
returns-in_err-admit c =
    rw (handed-on _ _ c.from_residual.ensures.1)
    (refused-kept (search-guarded c.args.e) c.args.t.now _
    (search-admits c.args.t.now c.args.e _ (rw c.test_entry.ensures at c.in_err-admit.ensures)))

pub handle-requires-clause-target_allows : goal.handle-requires-clause-target_allows
handle-requires-clause-target_allows c =
    walked-allows (λ v. search_tests v c.args.e) c.args.t.now true c.args.e c.walk_for-w.result
    (search-admits c.args.t.now c.args.e _ (rw c.test_entry.ensures at c.in_ok-admit.ensures))
    (rw c.in_use.ensures at c.walk_for-w.ensures)

pub returns : goal.returns
returns c =
    search-met c.args.t.now c.handle.new.t c.args.e c.walk_for-w.result _
    (search-admits c.args.t.now c.args.e _ (rw c.test_entry.ensures at c.in_ok-admit.ensures))
    (rw c.in_use.ensures at c.walk_for-w.ensures)
    (rw c.in_use-2.ensures at c.found_count-found.ensures)
    (rw c.search_handling.ensures at c.handle.ensures.held)
