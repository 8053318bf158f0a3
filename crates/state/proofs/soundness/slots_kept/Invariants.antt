use Rattle.std.proofs.Common.{◌≡◌, ◌≤◌, length, drop}
use Rattle.state.specs.Lists.{every}
use Rattle.state.specs.Soundness.{keeps_slot}
use Rattle.state.proofs.soundness.slots_kept.Given as goal

abbrev pub invariant-loop-x : goal.invariant-loop-x
invariant-loop-x l =
    (l.at ≤ length l.headers)
    × (every (keeps_slot l.headers) l.entries ≡ every (keeps_slot l.headers) (drop l.x-index l.entries))
