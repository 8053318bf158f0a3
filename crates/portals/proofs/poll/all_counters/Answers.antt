use Rattle.std.proofs.Common.{rules, tests}
use Rattle.matching.specs.Entry.{is_counter}
use Rattle.state.proofs.FoundLaws.{all_told}
use Rattle.portals.proofs.poll.all_counters.Goals as goal

pub returns : goal.returns
returns c = all_told is_counter _ _ _ _ c.args.ks.now c.all.ensures.ran (λ x b q k. search (rules, tests)) cc
