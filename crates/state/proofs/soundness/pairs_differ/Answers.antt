use Rattle.std.proofs.Common.{rules, tests}
use Rattle.state.specs.View.{has_handle}
use Rattle.state.proofs.FoundLaws.{any_told}
use Rattle.state.proofs.soundness.pairs_differ.Goals as goal

pub loop-x-preserved : goal.loop-x-preserved
loop-x-preserved c =
    let told = any_told (has_handle c.in-Some.x.now.handle) _ _ _ _ c.in-Some.others.now c.any.ensures.ran (λ x b q k. search (rules, tests)) cc in
    search (rules, tests)
