use Rattle.std.proofs.Common.{◌≡◌, ◌≤◌, length, drop}
use Rattle.state.specs.Lists.{every}
use Rattle.state.specs.Soundness.{header_sound}
use Rattle.state.proofs.soundness.headers_sound.Given as goal

abbrev pub invariant-loop-h : goal.invariant-loop-h
invariant-loop-h l =
    (l.at ≤ length l.entries)
    × (every (header_sound l.entries) l.headers ≡ every (header_sound l.entries) (drop l.h-index l.headers))
