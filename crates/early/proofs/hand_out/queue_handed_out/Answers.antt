-- A header that fits is handed out, with AUTO_FREE if it is its entry's last; another is passed.
use Rattle.std.proofs.Common.{◌≡◌, ◌<◌, [], length, ap, ◌∙◌, sym, arith, rules}
use Rattle.state.specs.View.{zero_header}
use Rattle.early.specs.Parts.{walk_of}
use Rattle.early.proofs.HandOutLaws.{handing-past, handing-more, handing-last}
use Rattle.early.proofs.hand_out.queue_handed_out.Goals as goal
use Rattle.early.proofs.hand_out.queue_handed_out.Goals.{then-fits_header+then-not-still_waits, then-fits_header+else-not-still_waits, else-fits_header}

pub loop-i-preserved : goal.loop-i-preserved
loop-i-preserved c =
    let e = c.args.found.now.entry.now in
    let left = (walk_of e c.args.found.now.headers.now c.args.found.now.walked).left in
    let part = c.part-part.result.now in
    let inside : c.loop-i.i < length part = search rules in
    let some : part ≡ [] → ⊥ = λ none. let empty : length part ≡ 0 = ap length none in omega (arith, inside) in
    elim c.if-fits_header.branch [
      | then-fits_header+then-not-still_waits w ↦
          rw w.q-is (
            handing-last e c.args.owner c.args.entries.now left part c.loop-i.i zero_header _ c.loop-i.q c.loop-i.invariant.0 inside
                w.post.new.self w.queue_freed.new.q w.overflow_event.result w.still_waits.result
                (sym c.fits_header.ensures ∙ w.if-fits_header.true) w.overflow_event.ensures w.post.ensures.held w.still_waits.ensures
                w.if-not-still_waits.true w.queue_freed.ensures,
            λ none. absurd (some none),
          )
      | then-fits_header+else-not-still_waits w ↦
          rw w.q-is (
            handing-more e c.args.owner c.args.entries.now left part c.loop-i.i zero_header _ c.loop-i.q c.loop-i.invariant.0 inside
                w.post.new.self w.overflow_event.result w.still_waits.result
                (sym c.fits_header.ensures ∙ w.if-fits_header.true) w.overflow_event.ensures w.post.ensures.held w.still_waits.ensures
                w.if-not-still_waits.false,
            λ none. absurd (some none),
          )
      | else-fits_header w ↦
          rw w.q-is (
            handing-past e c.args.owner c.args.entries.now left part c.loop-i.i zero_header _ c.loop-i.q c.loop-i.invariant.0 inside
                (sym c.fits_header.ensures ∙ w.if-fits_header.false),
            λ none. absurd (some none),
          )
    ]
