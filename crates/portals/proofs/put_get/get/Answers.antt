-- The decision is the rules', or a refusal, and all else follows it.
use Rattle.std.specs.Prelude.{Ok, Err}
use Rattle.std.proofs.Common.{refl}
use Rattle.portals.proofs.MetLaws.{handed-on}
use Rattle.portals.proofs.RequestMet.{get-met}
use Rattle.portals.proofs.put_get.get.Goals as goal

pub returns-in_err-d : goal.returns-in_err-d
returns-in_err-d c =
    rw (handed-on _ _ c.from_residual.ensures.1)
    (get-met c.args.t.now c.args.t.now c.args.memory.now c.args.q c.args.reply.now (Err _) c.in_err-d.ensures refl)

pub returns : goal.returns
returns c =
    rw (c.answer_by.ensures, c.bytes_got.ensures)
    (get-met c.args.t.now c.carry_out.new.t c.args.memory.now c.args.q c.args.reply.now (Ok _) c.in_ok-d.ensures c.carry_out.ensures.held)
