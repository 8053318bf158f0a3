-- The event joins the ring.
use Rattle.std.proofs.Common.{◌≡◌, ◌<◌, sym, ◌∙◌, arith}
use borrow.Author.Tests.{eqb-false}
use Rattle.state.specs.Sizes.{EVENTS}
use Rattle.state.proofs.PostLaws.{joined}
use Rattle.state.proofs.layout.Queue.post.Goals as goal

pub returns-clause-held : goal.returns-clause-held
returns-clause-held c =
    let q = c.args.self.now in
    let differs : q.count ≡ EVENTS → ⊥ = eqb-false q.count EVENTS (sym c.is_full.ensures ∙ c.if-is_full.false) in
    let room : q.count < EVENTS = omega (arith, c.requires.room, differs) in
    joined q c.requires (record { event = c.args.e; options = c.args.options }) _ (sym c.is_event_disabled.ensures ∙ c.if-is_event_disabled.false) room c.gap_of.ensures
