-- TAKEN or LINKED, the counter grows by what the append takes.
use Rattle.std.proofs.Common.{◌≡◌, ⊎_elim}
use Rattle.early.specs.Handling.{overflow_counted}
use Rattle.early.specs.Parts.{walk_of}
use Rattle.early.proofs.handling.change_counters.Goals as goal

pub returns-in-Take : goal.returns-in-Take
returns-in-Take c =
    let e = c.args.found.now.entry.now in
    let grown : c.count.new.self.slots ≡ overflow_counted c.args.cs.now.slots e (walk_of e c.args.found.now.headers.now c.args.found.now.walked) =
    rw (← c.part.ensures, ← c.overflow_amounts-amount.ensures) c.count.ensures in
    ⊎_elim (λ taken. rw taken grown) (λ linked. rw linked.1 grown) c.in-Take.is
