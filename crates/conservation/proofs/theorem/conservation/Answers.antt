-- The theorem, proved in EveryList.
use Rattle.conservation.proofs.EveryList.{conservation}
use Rattle.conservation.proofs.theorem.conservation.Goals as goal

pub returns : goal.returns
returns c = conservation
