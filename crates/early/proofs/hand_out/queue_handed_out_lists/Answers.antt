-- A header is handed out, with AUTO_FREE if it is its entry's last.
use Rattle.std.proofs.Common.{rules}
use Rattle.state.specs.View.{zero_header}
use Rattle.early.proofs.HandOutLaws.{lists-last, lists-more}
use Rattle.early.proofs.hand_out.queue_handed_out_lists.Goals as goal
use Rattle.early.proofs.hand_out.queue_handed_out_lists.Goals.{then-not-is_named_in_either, else-not-is_named_in_either}

pub loop-i-preserved : goal.loop-i-preserved
loop-i-preserved c =
    elim c.if-not-is_named_in_either.branch [
      | then-not-is_named_in_either w ↦
          rw w.q-is
          (lists-last c.args.e.now c.args.owner c.args.entries.now c.args.left.now c.args.found.now c.loop-i.i zero_header _ c.loop-i.q c.loop-i.invariant (search rules)
          c.post.new.self c.overflow_event.result c.is_named_in_either.result c.overflow_event.ensures c.post.ensures.held (search rules)
          w.queue_freed.new.q w.if-not-is_named_in_either.true w.queue_freed.ensures)
      | else-not-is_named_in_either w ↦
          rw w.q-is
          (lists-more c.args.e.now c.args.owner c.args.entries.now c.args.left.now c.args.found.now c.loop-i.i zero_header _ c.loop-i.q c.loop-i.invariant (search rules)
          c.post.new.self c.overflow_event.result c.is_named_in_either.result c.overflow_event.ensures c.post.ensures.held (search rules)
          w.if-not-is_named_in_either.false)
    ]
