-- The calls are the example's run: ExampleLaws.
use Rattle.conservation.proofs.ExampleLaws.{example}
use Rattle.conservation.proofs.example.early_message.Goals as goal

pub returns : goal.returns
returns c = example _ _ _ _ _ c.new.ensures c.append.ensures c.put.ensures c.append-2.ensures
