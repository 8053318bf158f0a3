-- What the functions that run a script promise.
use Rattle.std.specs.Prelude.{ℕ, ◌+◌, ◌*◌, ◌≤◌, ◌≡◌, List, ◌++◌, Result, Ok, length, take, drop, replicate}
use Rattle.matching.specs.declared.refusals.Refusal.{Refusal}
use Rattle.state.specs.Soundness.{seen}
use Rattle.state.specs.declared.layout.Target.{Target}
use Rattle.portals.specs.Calls.{Call}
use Rattle.portals.specs.Promises.{NewMet}
use Rattle.portals.specs.declared.answers.Done.{Done}
use Rattle.conservation.specs.Runs as runs
use Rattle.conservation.specs.Conserved.{Conserved}
use Rattle.text.specs.Writing.{Wrote}
use Rattle.text.specs.declared.writing.Writer.{Writer}
use Rattle.reader.specs.Contents.{CALLS, head_of}
use Rattle.reader.specs.Judging.{SCRIPT_MEMORY, verdict_of}
use Rattle.printer.specs.Said.{SAID, said}
use Rattle.script.specs.Run.{called}
use Rattle.script.specs.Printout.{line_of, printout_of}
use Rattle.script.specs.Log.{logged, log_of}
use Rattle.script.specs.declared.replay.Report.{Report}

-- ## Sizes

-- a line has at most so many bytes before its newline: what is said of a call, and what a get shows, which is a space and a dash, or a
-- space and two digits for each byte
abbrev pub TEXT : ℕ
TEXT = SAID + (2 + 2 * SCRIPT_MEMORY)

-- with its newline
abbrev pub LINE : ℕ
LINE = TEXT + 1

-- a printout has at most so many bytes
abbrev pub PRINTOUT : ℕ
PRINTOUT = CALLS * LINE

-- ## One call

-- A call was run on a target and a memory: a step of a list of calls, with the answer that its line shows; the state and the memory
-- that it leaves; and its line, but for the newline, in the buffer.
pub record CallRan (c : Call) (t : Target) (m : List ℕ) (k : ℕ) (w : Writer) (t' : Target) (m' : List ℕ) (w' : Writer) : Type 0 where
  pub step : runs.Stepped t m (logged c (seen t) m) t' m'
  pub state : seen t' ≡ (called c (seen t) m).state
  pub memory : m' ≡ (called c (seen t) m).memory
  pub line : Wrote w (said k (called c (seen t) m).answer ++ (called c (seen t) m).shown) TEXT w'

-- a call with its whole line in the buffer
pub record LineRan (c : Call) (t : Target) (m : List ℕ) (k : ℕ) (w : Writer) (t' : Target) (m' : List ℕ) (w' : Writer) : Type 0 where
  pub step : runs.Stepped t m (logged c (seen t) m) t' m'
  pub state : seen t' ≡ (called c (seen t) m).state
  pub memory : m' ≡ (called c (seen t) m).memory
  pub line : Wrote w (line_of k (called c (seen t) m)) LINE w'

-- ## The printout

-- bytes that may be handed over next: those that the printout has behind the ones that were handed over before
pub record Next (script : List ℕ) (done : Report) (bytes : List ℕ) : Type 0 where
  pub next : take (length bytes) (drop done.bytes (printout_of script)) ≡ bytes
  pub room : done.bytes + length bytes ≤ PRINTOUT

-- ## The run

-- A good script was run: its calls, each with the answer that is printed, are a run from a new target on a memory of zeros, and early
-- messages are conserved in it.
pub record RunOf (s : List ℕ) : Type 0 where
  pub new : Done (Result Unit Refusal)
  pub target : Target
  pub memory : List ℕ
  pub made : NewMet (record { size = (head_of s).memory }) new
  pub ran : runs.Ran new.target (replicate (head_of s).memory 0) (log_of s) target memory
  pub conserved : Conserved (replicate (head_of s).memory 0) (log_of s) target memory

-- A script was judged, and run if it is good: its whole printout came up to be handed over.
pub record Replayed (s : List ℕ) (r : Report) : Type 0 where
  pub printed : r.bytes ≡ length (printout_of s)
  pub ran : verdict_of s ≡ Ok tt → RunOf s
