-- How a file is judged, and what holds of one that is good.
use mathlib.Core.Path.{◌≡◌, refl}
use mathlib.Core.Bool.{Bool, true, false, cond, ◌&&◌}
use mathlib.Core.List.{List}
use Prim.Native.Nat.{ℕ, zero, suc, ◌+◌, ◌-◌, ◌≤◌, ◌<◌}
use native.Mathlib.Numerals.{add-one}
use native.Mathlib.Omega.{arith}
use borrow.Author.Tests.{leb-true, eqb-true}
use lib.Dec.{leb, eqb}
use lib.ListN.{length}
use Rattle.std.specs.Prelude.{Option, Some, None, Result, Ok, Err}
use Rattle.state.proofs.ListLaws.{both}
use Rattle.reader.specs.Contents.{HEAD, CALLS, head_of, line_at, body_length, body_lengths}
use Rattle.reader.specs.Calls.{kind_of_call}
use Rattle.reader.specs.Judging.{FILE, SCRIPT_MEMORY, good_fields, bodies_start, good_size, good_head, good_body, formed_as, well_formed, good_call, first_bad_call, verdict_of}
use Rattle.reader.specs.declared.contents.Line.{Line}
use Rattle.reader.specs.declared.calls.CallKind.{CallKind}
use Rattle.reader.specs.declared.calls.UnknownKind.{UnknownKind}
use Rattle.reader.specs.declared.judging.BadScript.{BadScript}

-- ## The head

-- what a good head says: it is whole, its fields are in bounds, and the contents are whole in a file that is not too long
pub record HeadGood (s : List ℕ) : Type 0 where
  pub whole : HEAD ≤ length s
  pub few : (head_of s).count ≤ CALLS
  pub small : (head_of s).memory ≤ SCRIPT_MEMORY
  pub inside : bodies_start (head_of s).count ≤ length s
  pub fits : length s ≤ FILE

pub head_good : (s : List ℕ) → good_head s ≡ true → HeadGood s
unfolding good_head
head_good s good =
    let h = head_of s in
    let count = h.count in
    let sum = body_lengths s count 0 in
    let (whole, rest) = both (leb HEAD (length s)) (good_fields h && good_size s count) good in
    let (fields, size) = both (good_fields h) (good_size s count) rest in
    let (front, small) = both (leb h.count CALLS && eqb h.reserved 0) (leb h.memory SCRIPT_MEMORY) fields in
    let within = (both (leb (length s) FILE && leb (bodies_start count) (length s)) (leb (length s) (bodies_start count + sum)) size).0 in
    let (fits, inside) = both (leb (length s) FILE) (leb (bodies_start count) (length s)) within in
    record {
      whole = leb-true _ _ whole;
      few = leb-true _ _ (both (leb h.count CALLS) (eqb h.reserved 0) front).0;
      small = leb-true _ _ small;
      inside = leb-true _ _ inside;
      fits = leb-true _ _ fits;
    }

-- ## The lines one after the other

pub calls_more : (s : List ℕ) (count i at : ℕ) → i < count
    → first_bad_call s (count - i) i at
    ≡ cond (good_call s at (line_at s i)) (first_bad_call s (count - (i + 1)) (i + 1) (at + body_length (line_at s i))) (Err (BadScript.Call i))
unfolding first_bad_call
calls_more s count i at more =
    let rest : count - i ≡ suc (count - (i + 1)) = omega arith in
    rw (rest, add-one i) refl

pub calls_none : (s : List ℕ) (count i at : ℕ) → count ≤ i → first_bad_call s (count - i) i at ≡ Ok tt
unfolding first_bad_call
calls_none s count i at all =
    let rest : count - i ≡ 0 = omega arith in
    rw rest

-- the body of a good line ends in the file
formed-inside : (s : List ℕ) (l : Line) (kind : Result CallKind UnknownKind) → formed_as kind s l ≡ true → l.place + l.length ≤ length s
formed-inside s l (Err unknown) formed = absurd (cc)
formed-inside s l (Ok kind) formed =
    let rest = (both (eqb l.reserved 0) (leb (l.place + l.length) (length s) && good_body kind s l) formed).1 in
    leb-true _ _ (both (leb (l.place + l.length) (length s)) (good_body kind s l) rest).0

pub call_ends : (s : List ℕ) (at : ℕ) (line : Option Line) → good_call s at line ≡ true → at + body_length line ≤ length s
unfolding well_formed
call_ends s at None good = absurd (cc)
call_ends s at (Some l) good =
    let (formed, placed) = both (well_formed s l) (eqb l.place at) good in
    let is = eqb-true l.place at placed in
    let inside = formed-inside s l (kind_of_call l.kind) formed in
    omega arith

-- ## What holds of a file that is good

-- a good verdict that hangs on a test: it is passed
passed : (t : Bool) (v : Result Unit BadScript) (bad : BadScript) → cond t v (Err bad) ≡ Ok tt → (t ≡ true) × (v ≡ Ok tt)
passed true v bad good = (refl, good)
passed false v bad good = absurd (cc)

-- line i is there, and well formed
pub record LineGood (s : List ℕ) (i : ℕ) : Type 0 where
  pub line : Line
  pub is : line_at s i ≡ Some line
  pub formed : well_formed s line ≡ true

good-line : (s : List ℕ) (i at : ℕ) (line : Option Line) → line_at s i ≡ line → good_call s at line ≡ true → LineGood s i
good-line s i at None is good = absurd (cc)
good-line s i at (Some l) is good = record { line = l; is = is; formed = (both (well_formed s l) (eqb l.place at) good).0 }

-- each of m lines from line i on
lines-good : (s : List ℕ) (m i at k : ℕ) → first_bad_call s m i at ≡ Ok tt → k < m → LineGood s (i + k)
unfolding first_bad_call
lines-good s zero i at k good inside = absurd (omega arith)
lines-good s (suc m) i at zero good inside =
    let this : i + 0 ≡ i = omega arith in
    let first = (passed (good_call s at (line_at s i)) _ _ good).0 in
    rw this (good-line s i at (line_at s i) refl first)
lines-good s (suc m) i at (suc k) good inside =
    let next : i + suc k ≡ suc i + k = omega arith in
    let rest = (passed (good_call s at (line_at s i)) _ _ good).1 in
    rw next (lines-good s m (suc i) (at + body_length (line_at s i)) k rest (omega arith))

module _ (s : List ℕ) (good : verdict_of s ≡ Ok tt) where
  judged : (good_head s ≡ true) × (first_bad_call s (head_of s).count 0 (bodies_start (head_of s).count) ≡ Ok tt)
  unfolding verdict_of
  judged = passed (good_head s) (first_bad_call s (head_of s).count 0 (bodies_start (head_of s).count)) BadScript.Head good

  pub good_script_head : HeadGood s
  good_script_head = head_good s judged.0

  pub good_script_line : (i : ℕ) → i < (head_of s).count → LineGood s i
  good_script_line i inside =
      let this : 0 + i ≡ i = omega arith in
      rw this at (lines-good s (head_of s).count 0 (bodies_start (head_of s).count) i judged.1 inside)

  -- what a reader is given there
  pub formed_there : (i : ℕ) (l : Line) → i < (head_of s).count → line_at s i ≡ Some l → well_formed s l ≡ true
  formed_there i l inside is =
      let there = good_script_line i inside in
      let same : there.line ≡ l = cc in
      rw same at there.formed

  pub some_there : (i : ℕ) → i < (head_of s).count → line_at s i ≡ None → ⊥
  some_there i inside is =
      let there = good_script_line i inside in
      cc
