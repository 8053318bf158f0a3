use Rattle.std.proofs.Common.{◌≡◌, length}
use Rattle.state.specs.Soundness.{distinct}
use Rattle.state.proofs.soundness.pairs_differ.Given as goal

abbrev pub invariant-loop-x : goal.invariant-loop-x
invariant-loop-x l = distinct l.entries ≡ distinct l.rest

abbrev pub decreases-loop-x : goal.decreases-loop-x
decreases-loop-x l = length l.rest
