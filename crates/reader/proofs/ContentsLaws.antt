-- Laws of the lines of the contents: the next place, and the sum of the body lengths of so many.
use mathlib.Core.Path.{◌≡◌}
use mathlib.Core.List.{List}
use Prim.Native.Nat.{ℕ, suc, ◌+◌, ◌-◌, ◌≤◌, ◌<◌}
use native.Mathlib.Numerals.{add-one}
use native.Mathlib.Omega.{arith}
use borrow.Author.Tests.{le-leb}
use Rattle.reader.specs.Contents.{CALLS, line_at, next_place, body_length, body_lengths}

pub place_next : (i : ℕ) → i < CALLS → next_place i ≡ i + 1
unfolding next_place
place_next i few = rw (le-leb _ _ few)

-- the sum: that of the first, and of the others
pub lengths_more : (s : List ℕ) (count i : ℕ) → i < count
    → body_lengths s (count - i) i ≡ body_length (line_at s i) + body_lengths s (count - (i + 1)) (i + 1)
unfolding body_lengths
lengths_more s count i more =
    let rest : count - i ≡ suc (count - (i + 1)) = omega arith in
    rw (rest, add-one i)

pub lengths_none : (s : List ℕ) (count i : ℕ) → count ≤ i → body_lengths s (count - i) i ≡ 0
unfolding body_lengths
lengths_none s count i all =
    let rest : count - i ≡ 0 = omega arith in
    rw rest
