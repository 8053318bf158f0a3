-- Laws of a script that is run, its printout handed over piece by piece. Assumes nothing.
use Prim.Native.Nat.{ℕ, suc, ◌+◌, ◌-◌, ◌*◌, ◌≤◌, ◌<◌}
use mathlib.Core.Path.{◌≡◌, refl, sym, ap, ◌∙◌, subst}
use mathlib.Core.List.{List, [], ◌∷◌, ◌++◌}
use native.Mathlib.Omega.{arith}
use native.Mathlib.Numerals.{add-one}
use borrow.Author.Tests.{le-leb}
use lib.ListN.{length, take, drop, replicate, length-drop, length-append, length-replicate}
use lib.Seq.{take-length, take_at, drop_at, drop-drop}
use Rattle.std.specs.Prelude.{Some, Result, Ok, Err}
use Rattle.std.proofs.lemmas.List.{take-replicate}
use Rattle.matching.specs.declared.refusals.Refusal.{Refusal}
use Rattle.state.specs.Sizes.{MEMORY}
use Rattle.state.specs.View.{view_of}
use Rattle.state.specs.Soundness.{seen}
use Rattle.state.specs.declared.layout.Settings.{Settings}
use Rattle.state.specs.declared.layout.Target.{Target}
use Rattle.portals.specs.Calls.{Call}
use Rattle.portals.specs.Making as making
use Rattle.portals.specs.Promises.{NewMet}
use Rattle.portals.specs.declared.answers.Done.{Done}
use Rattle.conservation.specs.Runs as runs
use Rattle.conservation.proofs.EveryList.{conservation}
use Rattle.text.specs.Writing.{Wrote}
use Rattle.text.specs.declared.writing.Writer.{Writer}
use Rattle.reader.specs.Contents.{CALLS, head_of, line_at}
use Rattle.reader.specs.Calls.{line_call}
use Rattle.reader.specs.declared.calls.Call as script
use Rattle.reader.specs.declared.contents.Line.{Line}
use Rattle.reader.specs.Judging.{SCRIPT_MEMORY, verdict_of}
use Rattle.reader.specs.declared.contents.Head.{Head}
use Rattle.reader.specs.declared.judging.BadScript.{BadScript}
use Rattle.reader.proofs.JudgingLaws.{good_script_head}
use Rattle.script.specs.Run.{asked, called}
use Rattle.script.specs.Printout.{call_at, calls_from, line_of, lines_from, printout_by, printout_of}
use Rattle.script.specs.Log.{logged, log_from, log_of}
use Rattle.script.specs.Promises.{LINE, LineRan, Next, RunOf, Replayed}
use Rattle.script.specs.declared.replay.Report.{Report}

-- ## What is left of a list

module _ (p : List ℕ) (n : ℕ) (piece rest : List ℕ) (left : drop n p ≡ piece ++ rest) where
  -- the piece is next
  piece-next : take (length piece) (drop n p) ≡ piece
  piece-next = rw left (take_at piece rest (length piece) refl)

  -- and the rest is left behind it
  rest-left : drop (n + length piece) p ≡ rest
  rest-left = sym (drop-drop (length piece) n p) ∙ rw left (drop_at piece rest (length piece) refl)

  piece_inside : n ≤ length p → n + length piece ≤ length p
  piece_inside inside =
      let count : length p - n ≡ length piece + length rest
      = sym (length-drop n p) ∙ ap (λ (l : List ℕ). length l) left ∙ length-append piece rest in
      omega (arith, count, inside)

-- where nothing is left, all was handed over
none_left : (p : List ℕ) (n : ℕ) → drop n p ≡ [] → n ≤ length p → n ≡ length p
none_left p n left inside =
    let count : length p - n ≡ 0 = sym (length-drop n p) ∙ ap (λ (l : List ℕ). length l) left in
    omega (arith, count, inside)

-- ## The memory

-- a good script's memory is a part of 16,384 zero bytes
pub good-memory : (s : List ℕ) (head : Head) (zeros : List ℕ) → head ≡ head_of s → verdict_of s ≡ Ok tt → zeros ≡ replicate SCRIPT_MEMORY 0
    → (head.memory ≤ length zeros) × (take head.memory zeros ≡ replicate (head_of s).memory 0)
good-memory s head zeros is good all =
    let small = (good_script_head s good).small in
    (rw (is, all, length-replicate {A = ℕ} SCRIPT_MEMORY 0) small, rw (is, all) (take-replicate (head_of s).memory SCRIPT_MEMORY 0 small))

-- ## The run

-- A script's run as far as here: a run of the calls that are left makes it whole.
pub record Underway (s : List ℕ) (left : List runs.Line) (t : Target) (memory : List ℕ) : Type 0 where
  pub new : Done (Result Unit Refusal)
  pub made : NewMet (record { size = (head_of s).memory }) new
  pub whole : (t' : Target) (memory' : List ℕ)
      → runs.Ran t memory left t' memory'
      → runs.Ran new.target (replicate (head_of s).memory 0) (log_of s) t' memory'

-- a new target has the size that was asked for
made-size : (x : Settings) → x.size ≤ MEMORY → (making.new x).state.size ≡ x.size
unfolding making.new
made-size x small = rw (le-leb x.size MEMORY small) refl

-- no call is left
run_of : (s : List ℕ) (t : Target) (memory : List ℕ) → Underway s [] t memory → verdict_of s ≡ Ok tt → RunOf s
run_of s t memory u good =
    let start : List ℕ = replicate (head_of s).memory 0 in
    let settings : Settings = record { size = (head_of s).memory } in
    let size : (view_of u.new.target).size ≡ (head_of s).memory
    = ap (λ (x : Target). x.size) u.made.target ∙ made-size settings (omega (arith, (good_script_head s good).small)) in
    let ran = u.whole t memory runs.none in
    record {
      new = u.new;
      target = t;
      memory = memory;
      made = u.made;
      ran = ran;
      conserved =
          conservation settings u.new start (log_of s) t memory u.made
          (length-replicate {A = ℕ} (head_of s).memory 0 ∙ sym size) ran;
    }

-- ## The loop

-- the calls of so many lines: the first, and the others
calls-next : (s : List ℕ) (count k : ℕ) (c : Call) → k < count → call_at s k ≡ Some c
    → calls_from s (count - k) k ≡ c ∷ calls_from s (count - (k + 1)) (k + 1)
unfolding calls_from
calls-next s count k c more is =
    let n : count - k ≡ suc (count - (k + 1)) = omega arith in
    rw (n, calls_from, is, add-one k) refl

-- the call of a line that was read
pub called_at : (s : List ℕ) (k : ℕ) (l : Line) (call : script.Call) → line_at s k ≡ Some l → line_call s l ≡ Some call
    → call_at s k ≡ Some (asked s call)
called_at s k l call is e = rw (is, e) refl

-- Before call k of so many: what is left of the printout are the lines of the calls that are left, on this state and this memory, and
-- what is left of the run is their log.
pub record Going (s : List ℕ) (count k : ℕ) (done : Report) (t : Target) (memory : List ℕ) : Type 0 where
  pub counted : count ≡ (head_of s).count
  pub few : count ≤ CALLS
  pub inside : done.bytes ≤ length (printout_of s)
  pub short : done.bytes ≤ k * LINE
  pub left : drop done.bytes (printout_of s) ≡ lines_from k (calls_from s (count - k) k) (seen t) memory
  pub run : Underway s (log_from (calls_from s (count - k) k) (seen t) memory) t memory

pub going-begins :
    (s : List ℕ) (head : Head) (begun : Report) (made : Done (Result Unit Refusal)) (memory : List ℕ)
    → head ≡ head_of s
    → verdict_of s ≡ Ok tt
    → begun.bytes ≡ 0
    → NewMet (record { size = head.memory }) made
    → memory ≡ replicate (head_of s).memory 0
    → Going s head.count 0 begun made.target memory
unfolding printout_of
going-begins s head begun made memory is good none met zeros =
    let all : (head_of s).count - 0 ≡ (head_of s).count = omega arith in
    record {
      counted = ap (λ (h : Head). h.count) is;
      few = subst (λ (h : Head). h.count ≤ CALLS) (sym is) (good_script_head s good).few;
      inside = rw none (omega arith);
      short = rw none (omega arith);
      left = rw (none, good, met.state, zeros, is, all) refl;
      run = record {
        new = made;
        made = subst (λ (h : Head). NewMet (record { size = h.memory }) made) is met;
        whole = λ t' memory' ran. rw (met.state, zeros, is, all) at ran;
      };
    }

-- what was written into a buffer from its start
pub from_start : {w w' : Writer} {text bytes : List ℕ} {most : ℕ} → w.at ≡ 0 → Wrote w text most w' → bytes ≡ take w'.at w'.out.now → bytes ≡ text
from_start start wrote written = written ∙ wrote.front ∙ rw start refl

-- `bytes`: the line of call k, which was written
module _
    (s : List ℕ) (count k : ℕ) (done : Report) (t : Target) (memory : List ℕ) (g : Going s count k done t memory)
    (c : Call) (more : k < count) (is : call_at s k ≡ Some c)
    (w : Writer) (t' : Target) (memory' : List ℕ) (w' : Writer) (begun : w.at ≡ 0) (ran : LineRan c t memory k w t' memory' w')
    (bytes : List ℕ) (written : bytes ≡ take w'.at w'.out.now) where
  line : bytes ≡ line_of k (called c (seen t) memory)
  line = from_start begun ran.line written

  rest : List ℕ
  rest = lines_from (k + 1) (calls_from s (count - (k + 1)) (k + 1)) (seen t') memory'

  first-left : drop done.bytes (printout_of s) ≡ bytes ++ rest
  unfolding lines_from rest
  first-left = g.left ∙ rw (calls-next s count k c more is, lines_from, ← add-one k, line, ran.state, ran.memory) refl

  first-logged :
      log_from (calls_from s (count - k) k) (seen t) memory
      ≡ logged c (seen t) memory ∷ log_from (calls_from s (count - (k + 1)) (k + 1)) (seen t') memory'
  unfolding log_from
  first-logged = rw (calls-next s count k c more is, log_from, ran.state, ran.memory) refl

  short-line : length bytes ≤ LINE
  short-line = rw line ran.line.short

  -- the line of call k may be handed over next
  pub going_next : Next s done bytes
  going_next = record {
    next = piece-next (printout_of s) done.bytes bytes rest first-left;
    room = omega (arith, short-line, g.short, g.few, more);
  }

  pub going_on : (done' : Report) → done'.bytes ≡ done.bytes + length bytes → Going s count (k + 1) done' t' memory'
  unfolding rest
  going_on done' d = record {
    counted = g.counted;
    few = g.few;
    inside = rw d (piece_inside (printout_of s) done.bytes bytes rest first-left g.inside);
    short = omega (arith, d, short-line, g.short);
    left = rw d (rest-left (printout_of s) done.bytes bytes rest first-left);
    run = record {
      new = g.run.new;
      made = g.run.made;
      whole = λ end memory'' later.
          g.run.whole end memory''
          (subst (λ (log : List runs.Line). runs.Ran t memory log end memory'') (sym first-logged) (runs.next ran.step later));
    };
  }

-- no call is left, and nothing of the printout
pub going-ends :
    (s : List ℕ) (count k : ℕ) (done : Report) (t : Target) (memory : List ℕ)
    → Going s count k done t memory
    → count ≤ k
    → Replayed s done
unfolding calls_from lines_from log_from
going-ends s count k done t memory g last =
    let n : count - k ≡ 0 = omega arith in
    let none : calls_from s (count - k) k ≡ [] = rw (n, calls_from) refl in
    let log : log_from (calls_from s (count - k) k) (seen t) memory ≡ [] = rw (none, log_from) refl in
    record {
      printed = none_left (printout_of s) done.bytes (g.left ∙ rw (none, lines_from) refl) g.inside;
      ran = run_of s t memory (subst (λ (left : List runs.Line). Underway s left t memory) log g.run);
    }

-- ## A bad file

-- its one line is handed over whole
module _ (s : List ℕ) (begun : Report) {bad known : BadScript} {bytes : List ℕ}
    (judged : verdict_of s ≡ Err bad) (none : begun.bytes ≡ 0) (known-is : bad ≡ known) (is : bytes ≡ printout_by (Err known) s) where
  whole : printout_of s ≡ bytes
  unfolding printout_of
  whole = rw (is, ← known-is) (ap (λ (v : Result Unit BadScript). printout_by v s) judged)

  pub whole-next : length bytes ≤ LINE → Next s begun bytes
  whole-next short = record { next = rw (none, whole) (take-length bytes); room = rw none (omega (arith, short)) }

  -- and nothing is left
  pub whole-done : (done : Report) → done.bytes ≡ begun.bytes + length bytes → Replayed s done
  whole-done done e = record { printed = e ∙ rw (none, whole) (omega arith); ran = λ good. cc }
