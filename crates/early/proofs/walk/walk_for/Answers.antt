-- By where the first that fits stands, if one does.
use Rattle.std.proofs.Common.{sym, ◌∙◌, rules, tests}
use Rattle.std.proofs.lemmas.Iterator.{YieldsList-from_slice}
use Rattle.std.proofs.lemmas.Iterator.Search.{position_from_yields_List}
use Rattle.early.specs.Walk.{fits_header}
use Rattle.early.proofs.WalkLaws.{once-holds, all-holds, none-fit-holds}
use Rattle.early.proofs.walk.walk_for.Goals as goal

pub returns-in-Some : goal.returns-in-Some
returns-in-Some c =
    once-holds c.args.e.now c.args.headers.now c.in-Some.first
    (sym (position_from_yields_List (fits_header c.args.e.now) _ _ c.position.result c.position.ensures.ran (YieldsList-from_slice c.args.headers.now cc)
    (λ x b q k. search (rules, tests)))
    ∙ c.in-Some.is)
    (sym c.uses_once.ensures ∙ c.if-uses_once.true)

pub returns-in-Some-2 : goal.returns-in-Some-2
returns-in-Some-2 c =
    all-holds c.args.e.now c.args.headers.now c.in-Some.first
    (sym (position_from_yields_List (fits_header c.args.e.now) _ _ c.position.result c.position.ensures.ran (YieldsList-from_slice c.args.headers.now cc)
    (λ x b q k. search (rules, tests)))
    ∙ c.in-Some.is)
    (sym c.uses_once.ensures ∙ c.if-uses_once.false)

pub returns-in-None : goal.returns-in-None
returns-in-None c =
    none-fit-holds c.args.e.now c.args.headers.now
    (sym (position_from_yields_List (fits_header c.args.e.now) _ _ c.position.result c.position.ensures.ran (YieldsList-from_slice c.args.headers.now cc)
    (λ x b q k. search (rules, tests)))
    ∙ c.in-None.is)
