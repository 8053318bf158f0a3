use Rattle.std.proofs.Common.{arith}
use Rattle.state.proofs.PostLaws.{oldest_taken}
use Rattle.state.proofs.layout.Queue.take.Goals as goal

pub returns-clause-held : goal.returns-clause-held
returns-clause-held c = oldest_taken c.args.self.now c.requires (omega (arith, c.if-self-eq0.false))
