use Rattle.portals.proofs.MetLaws.{handed-on, refused-kept}
use Rattle.portals.proofs.PartCalls.{read-event-guarded, read-event-met}
use Rattle.portals.proofs.events.read_event.Goals as goal

pub returns-in_err-test_state : goal.returns-in_err-test_state
returns-in_err-test_state c =
    rw (handed-on _ _ c.from_residual.ensures.1) (refused-kept read-event-guarded c.args.t.now _ c.in_err-test_state.ensures)

pub returns : goal.returns
returns c = read-event-met c.args.t.now c.take.new.self c.take.result c.in_ok-test_state.ensures c.take.ensures.held
