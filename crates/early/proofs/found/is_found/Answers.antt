use Rattle.std.proofs.Common.{◌∙◌, sym, ◌&&◌, rules, tests}
use Rattle.state.specs.Soundness.{names}
use Rattle.state.proofs.FoundLaws.{any_told}
use Rattle.early.specs.Walk.{fits_header}
use Rattle.early.proofs.HandOutLaws.{any-selected}
use Rattle.early.proofs.found.is_found.Goals as goal

pub returns : goal.returns
returns c =
    (any_told (λ h. names c.args.handle h && fits_header c.args.e.now h) _ _ _ _ c.args.part.now c.any.ensures.ran (λ x b q k. search (rules, tests)) cc)
    ∙ sym (any-selected (names c.args.handle) (fits_header c.args.e.now) c.args.part.now)
