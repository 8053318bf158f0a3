use Rattle.std.proofs.Common.{take, drop, subst, rules, tests}
use Rattle.state.specs.Soundness.{holds}
use Rattle.state.specs.View.{zero_entry}
use Rattle.state.specs.Parts.{FoundFrom}
use Rattle.state.proofs.FoundLaws.{found_told, found_before}
use Rattle.state.proofs.soundness.asked_from.Goals as goal

pub returns : goal.returns
returns c =
    let l = c.args.entries.now in
    let p = holds c.args.h.now in
    let after = found_told p zero_entry _ _ _ c.position.result (drop c.args.from l) c.position.ensures.ran (λ x q k. search (rules, tests)) (λ x q k. search (rules, tests)) cc in
    let before = found_told p zero_entry _ _ _ c.position-2.result (take c.args.from l) c.position-2.ensures.ran (λ x q k. search (rules, tests)) (λ x q k. search (rules, tests)) cc in
    found_before p l c.args.from c.position-2.result (subst (FoundFrom p (drop c.args.from l)) c.in_default.is after) before
