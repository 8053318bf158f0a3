use Rattle.std.proofs.Common.{◌∙◌, cond, rules, tests}
use Rattle.std.proofs.lemmas.Iterator.{YieldsList-from_slice, YieldsList-from_map}
use Rattle.std.proofs.lemmas.Iterator.Consumers.{sum_by_from_yields_List}
use Rattle.matching.specs.Counters.{overflow_amount}
use Rattle.state.specs.declared.layout.Header.{Header}
use Rattle.early.specs.Walk.{fits_header}
use Rattle.early.proofs.HandOutLaws.{sum_of-selected}
use Rattle.early.proofs.hand_out.overflow_amounts.Goals as goal

pub returns : goal.returns
returns c =
    let amount = λ (h : Header). overflow_amount c.args.e.now.options h.accepted in
    let of = λ (h : Header). cond (fits_header c.args.e.now h) (amount h) 0 in
    sum_by_from_yields_List of c.args.part.now c.map.result c.sum.result c.sum.ensures.ran
    (YieldsList-from_map _ of (YieldsList-from_slice c.args.part.now cc) c.map.ensures.closure (λ x r q k. search (rules, tests)))
    ∙ sum_of-selected (fits_header c.args.e.now) amount c.args.part.now
