-- The calls before call i are good, and the bodies of the others are to begin at a place.
use mathlib.Core.Path.{◌≡◌}
use Prim.Native.Nat.{◌-◌, ◌≤◌}
use lib.ListN.{length}
use Rattle.reader.specs.Judging.{bodies_start, first_bad_call}
use Rattle.reader.proofs.judging.check_calls.Given as goal

abbrev pub invariant-loop-i : goal.invariant-loop-i
invariant-loop-i l = (l.at ≤ length l.s) × (first_bad_call l.s l.count 0 (bodies_start l.count) ≡ first_bad_call l.s (l.count - l.i) l.i l.at)
