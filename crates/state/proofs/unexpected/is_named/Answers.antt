use Rattle.std.proofs.Common.{rules, tests}
use Rattle.state.specs.Soundness.{names}
use Rattle.state.proofs.FoundLaws.{any_told}
use Rattle.state.proofs.unexpected.is_named.Goals as goal

pub returns : goal.returns
returns c = any_told (names c.args.handle) _ _ _ _ _ c.any.ensures.ran (λ x b q k. search (rules, tests)) cc
