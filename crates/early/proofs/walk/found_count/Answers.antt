-- A filter of the part gives those that fit.
use Rattle.std.proofs.Common.{◌∙◌, ap, length, rules, tests}
use Rattle.std.proofs.lemmas.Iterator.{YieldsList-from_slice}
use Rattle.std.proofs.lemmas.Iterator.Consumers.{YieldsList-from_filter, count_from_yields_List}
use Rattle.early.specs.Walk.{fits_header}
use Rattle.early.proofs.HandOutLaws.{filter-select}
use Rattle.early.proofs.walk.found_count.Goals as goal

pub returns : goal.returns
returns c =
    rw (← c.part.ensures)
    (count_from_yields_List _ c.count.result c.count.ensures.ran
    (YieldsList-from_filter _ (fits_header c.args.e.now) (YieldsList-from_slice c.part.result.now cc) c.filter.ensures.closure (λ x b q k. search (rules, tests)))
    ∙ ap length (filter-select (fits_header c.args.e.now) c.part.result.now))
