-- Those of the part that are left stand behind those before it, and those after it move up.
use Rattle.std.proofs.Common.{◌≡◌, ◌∙◌, length, not, arith, rules, tests}
use Rattle.state.specs.View.{headers_of}
use Rattle.state.proofs.SlotLaws.{in_use}
use Rattle.early.specs.Walk.{fits_header}
use Rattle.std.proofs.lemmas.Bool.{ltb-false}
use Rattle.early.proofs.HandOutLaws.{headers-left, select-not, none-moved}
use Rattle.early.proofs.hand_out.keep_headers.Goals as goal

pub returns-clause-held : goal.returns-clause-held
returns-clause-held c =
    let waiting : length (headers_of c.args.us.now) ≡ c.args.us.now.count = in_use c.requires.unexpected_fit in
    let fits = fits_header c.args.e.now in
    let kept = c.keep_if.ensures.kept (λ h. not (fits h)) (λ x r q. search (rules, tests)) in
    headers-left c.args.us.now.slots c.keep_if.new.part c.copy_within.new.self fits c.args.w.now.first c.args.w.now.end
    c.args.us.now.count c.keep_if.result c.requires.unexpected_fit c.requires.walk_inside.ordered
    (omega (arith, c.requires.walk_inside.within, waiting)) c.keep_if.auto.part
    c.keep_if.ensures.few (kept ∙ select-not fits _) c.copy_within.ensures.after c.copy_within.ensures.len

pub returns-clause-none : goal.returns-clause-none
returns-clause-none c = λ none.
    let waiting : length (headers_of c.args.us.now) ≡ c.args.us.now.count = in_use c.requires.unexpected_fit in
    let m = none-moved c.args.us.now.slots c.keep_if.new.part c.copy_within.new.self c.args.w.now.first c.args.w.now.end c.args.us.now.count c.keep_if.result
    (omega (arith, c.requires.walk_inside.ordered, ltb-false c.args.w.now.first c.args.w.now.end none)) (omega (arith, c.requires.walk_inside.within, waiting))
    (omega (arith, c.requires.unexpected_fit.room, c.requires.unexpected_fit.long)) c.keep_if.auto.part c.keep_if.ensures.few c.copy_within.ensures.after in
    rw (m.0, m.1)
