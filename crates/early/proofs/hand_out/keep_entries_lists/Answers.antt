-- Those that keep their slot stand at the front.
use Rattle.std.proofs.Common.{rules, tests}
use Rattle.state.specs.Soundness.{keeps_slot}
use Rattle.early.proofs.HandOutLaws.{front-kept}
use Rattle.early.proofs.hand_out.keep_entries_lists.Goals as goal

pub returns : goal.returns
returns c =
    let p = keeps_slot c.args.left.now in
    front-kept c.args.es.now.slots c.keep_if-es.new.part p c.args.es.now.count c.keep_if-es.result c.requires c.keep_if-es.auto.part
    c.keep_if-es.ensures.few (c.keep_if-es.ensures.kept p (λ x r q. search (rules, tests)))
