-- The loop copies one byte after the other: the first i are those of `from`.
use Rattle.std.proofs.Common.{◌≡◌, ◌≤◌, length, take}
use Rattle.requests.proofs.bytes.fill.Given as goal

abbrev pub invariant-loop-i : goal.invariant-loop-i
invariant-loop-i l = (length l.part ≡ length l.initial.part) × ((l.i ≤ length l.part) × (take l.i l.part ≡ take l.i l.from))
