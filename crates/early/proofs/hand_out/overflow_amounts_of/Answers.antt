use Rattle.std.proofs.Common.{◌∙◌, rules}
use Rattle.std.proofs.lemmas.Iterator.{YieldsList-from_slice, YieldsList-from_map}
use Rattle.std.proofs.lemmas.Iterator.Consumers.{sum_by_from_yields_List}
use Rattle.matching.specs.Counters.{overflow_amount}
use Rattle.state.specs.declared.layout.Header.{Header}
use Rattle.early.proofs.HandOutLaws.{sum_of-by}
use Rattle.early.proofs.hand_out.overflow_amounts_of.Goals as goal

pub returns : goal.returns
returns c =
    let amount = λ (h : Header). overflow_amount c.args.options h.accepted in
    sum_by_from_yields_List amount c.args.found.now c.map.result c.sum.result c.sum.ensures.ran
    (YieldsList-from_map _ amount (YieldsList-from_slice c.args.found.now cc) c.map.ensures.closure (λ x r q k. (search rules, search rules)))
    ∙ sum_of-by amount c.args.found.now
