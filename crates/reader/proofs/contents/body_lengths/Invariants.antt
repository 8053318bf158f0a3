-- The loop sums the lengths of the lines before line i.
use mathlib.Core.Path.{◌≡◌}
use Prim.Native.Nat.{◌+◌, ◌*◌, ◌-◌, ◌≤◌}
use Rattle.reader.specs.Contents.{body_lengths}
use Rattle.reader.proofs.contents.body_lengths.Given as goal

abbrev pub invariant-loop-i : goal.invariant-loop-i
invariant-loop-i l = (l.sum ≤ l.i * 65535) × (body_lengths l.s l.count 0 ≡ l.sum + body_lengths l.s (l.count - l.i) l.i)
