use Rattle.script.proofs.RunLaws.{line-ran}
use Rattle.script.proofs.run.run_line.Goals as goal

pub returns : goal.returns
returns c = line-ran c.run_call.ensures c.put_byte.ensures
