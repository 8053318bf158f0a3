use Rattle.std.proofs.Common.{sym, ◌∙◌, arith}
use Rattle.portals.proofs.PollLaws.{reached-here, reached-later, reached-none}
use Rattle.portals.proofs.poll.lowest_reached.Goals as goal

pub loop-i-preserved : goal.loop-i-preserved
loop-i-preserved c =
    c.loop-i.invariant
    ∙ reached-later c.args.cs.now.slots c.args.ks.now c.args.tests.now c.loop-i.i c.loop-i-test.true (omega arith)
    (rw c.at.ensures at c.if-tests-i.false)

pub returns-then-tests-i : goal.returns-then-tests-i
returns-then-tests-i c =
    sym (c.loop-i.invariant
    ∙ reached-here c.args.cs.now.slots c.args.ks.now c.args.tests.now c.loop-i.i c.loop-i-test.true (omega arith)
    (rw c.at.ensures at c.if-tests-i.true))

pub returns-after-loop-i : goal.returns-after-loop-i
returns-after-loop-i c =
    sym (c.loop-i.invariant ∙ reached-none c.args.cs.now.slots c.args.ks.now c.args.tests.now c.loop-i.i c.loop-i-test.false)
