use Rattle.std.proofs.Common.{rules, tests}
use Rattle.state.specs.Soundness.{entry_sound}
use Rattle.state.proofs.FoundLaws.{all_told}
use Rattle.state.proofs.soundness.entries_sound.Goals as goal

pub returns : goal.returns
returns c = all_told (entry_sound c.args.size c.args.last) _ _ _ _ c.args.entries.now c.all.ensures.ran (λ x b q k. search (rules, tests)) cc
