-- What a function promises that writes text into a buffer.
use Rattle.std.specs.Prelude.{ℕ, ◌+◌, ◌≤◌, ◌≡◌, List, ◌++◌, length, take}
use Rattle.text.specs.declared.writing.Writer.{Writer}

-- the buffer has room for so many bytes more
abbrev pub Room : Writer → ℕ → Type 0
Room w n = w.at + n ≤ length w.out.now

-- At the writer's place a text was written: what stood before it stands there still, and then the text, up to the next place.
-- What stands behind that is left free. The text has at most so many bytes. The buffer is the same, and as long as it was.
pub record Wrote (w : Writer) (text : List ℕ) (most : ℕ) (w' : Writer) : Type 0 where
  pub front : take w'.at w'.out.now ≡ take w.at w.out.now ++ text
  pub next : w'.at ≡ w.at + length text
  pub short : length text ≤ most
  pub buffer : length w'.out.now ≡ length w.out.now
  pub same : w'.out.ghost_name ≡ w.out.ghost_name
