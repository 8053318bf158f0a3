-- Laws of a call that is run and printed. Assumes nothing.
use Prim.Native.Nat.{ℕ, ◌+◌, ◌*◌, ◌≤◌}
use mathlib.Core.Path.{◌≡◌, refl, sym, ap, ◌∙◌, subst}
use mathlib.Core.List.{List, [], ◌++◌, append-nil}
use native.Mathlib.Omega.{arith}
use lib.ListN.{length}
use Rattle.matching.specs.declared.layout.Request.{Request}
use Rattle.state.specs.View.{View}
use Rattle.state.specs.Soundness.{Seen, sound, unsound, seen}
use Rattle.state.specs.declared.layout.Target.{Target}
use Rattle.portals.specs.Answers.{Answer}
use Rattle.portals.specs.Outcome.{Outcome, unless_unsound, read_unless_unsound}
use Rattle.portals.specs.Request as request
use Rattle.portals.specs.Calls.{Call, get}
use Rattle.portals.specs.Promises.{Met, ReadMet}
use Rattle.conservation.specs.Runs as runs
use Rattle.text.specs.Text.{bytes_of}
use Rattle.text.specs.Writing.{Wrote}
use Rattle.text.specs.declared.writing.Writer.{Writer}
use Rattle.text.proofs.WritingLaws.{and_then, shorter}
use Rattle.reader.specs.Judging.{SCRIPT_MEMORY}
use Rattle.reader.specs.declared.calls.Call as script
use Rattle.printer.specs.Said.{SAID, said, shown_of}
use Rattle.script.specs.Run.{asked, Called, called}
use Rattle.script.specs.Printout.{line_of}
use Rattle.script.specs.Promises.{TEXT, CallRan, LineRan}

-- ## A call, by the outcome that its promise gives

-- a line that shows nothing behind its answer
said-alone : {w w' : Writer} (k : ℕ) (a : Answer) → Wrote w (said k a) SAID w' → Wrote w (said k a ++ []) TEXT w'
said-alone k a p = rw (append-nil (said k a)) (shorter (omega arith) p)

-- a step by a call that gave this answer, and showed these bytes behind it
ran-as :
    {c : Call} {t t' : Target} {m m' : List ℕ} {k : ℕ} {w w' : Writer} {answer : Answer} {shown : List ℕ}
    → ◌≡◌ {A = Called} (record { answer = answer; shown = shown; state = seen t'; memory = m' }) (called c (seen t) m)
    → runs.Stepped t m (runs.line m c answer) t' m'
    → Wrote w (said k answer ++ shown) TEXT w'
    → CallRan c t m k w t' m' w'
ran-as {c} {t} {t'} {m} {m'} {k} {w} {w'} is s p = record {
  step = subst (λ (z : Called). runs.Stepped t m (runs.line m c z.answer) t' m') is s;
  state = ap (λ (z : Called). z.state) is;
  memory = ap (λ (z : Called). z.memory) is;
  line = subst (λ (z : Called). Wrote w (said k z.answer ++ z.shown) TEXT w') is p;
}

-- A call of a script that shows nothing behind its answer: what it is lent, and so what it leaves, holds the memory.
module _ {B : Type 0} (memory : B → List ℕ) where
  abbrev pub leaving : Outcome Seen B → Called
  leaving o = record { answer = o.answer; shown = []; state = o.state; memory = memory o.buffer }

  pub ran :
      (s : List ℕ) {call known : script.Call} {does : View → Outcome View B} {t t' : Target} {lent left : B} {k : ℕ} {w w' : Writer}
      {answer : Answer}
      → call ≡ known
      → ((v : View) → leaving (unless_unsound does (sound v) lent) ≡ called (asked s known) (sound v) (memory lent))
      → Met does t lent answer t' left
      → runs.Stepped t (memory lent) (runs.line (memory lent) (asked s known) answer) t' (memory left)
      → Wrote w (said k answer) SAID w'
      → CallRan (asked s call) t (memory lent) k w t' (memory left) w'
  ran s {call} {known} {does} {t} {t'} {lent} {left} {k} {w} {w'} {answer} e is met step p =
      subst (λ (x : script.Call). CallRan (asked s x) t (memory lent) k w t' (memory left) w') (sym e)
      (ran-as (ap leaving met.outcome ∙ same (seen t)) step (said-alone k answer p))
    where
      same : (x : Seen) → leaving (unless_unsound does x lent) ≡ called (asked s known) x (memory lent)
      same (sound v) = is v
      same (unsound u) = refl

-- a call that only reads leaves all as it is
pub reads : {call : View → Answer} {t : Target} {answer : Answer} → ReadMet call t answer
    → Met (λ v. record { answer = call v; state = v; buffer = tt {0} }) t (tt {0}) answer t (tt {0})
reads {call} {t} {answer} met = record {
  outcome = ap read met.outcome ∙ same (seen t);
  unchanged = λ e. refl;
}
  where
    read : Answer → Outcome Seen Unit
    read a = record { answer = a; state = seen t; buffer = tt {0} }

    same : (x : Seen) →
        ◌≡◌ {A = Outcome Seen Unit} (record { answer = read_unless_unsound call x; state = x; buffer = tt {0} })
        (unless_unsound (λ v. record { answer = call v; state = v; buffer = tt {0} }) x (tt {0}))
    same (sound v) = refl
    same (unsound u) = refl

-- a get: its bytes follow what is said
pub get-ran :
    {t t' : Target} {m : List ℕ} {q : Request} {reply reply' : List ℕ} {k : ℕ} {w between w' : Writer} {answer : Answer}
    → Met (λ v. request.get v m q reply) t reply answer t' reply'
    → runs.Stepped t m (runs.line m (get q reply) answer) t' m
    → length reply' ≤ SCRIPT_MEMORY
    → Wrote w (said k answer) SAID between
    → Wrote between (shown_of answer reply') (2 + 2 * length reply') w'
    → CallRan (get q reply) t m k w t' m w'
get-ran {t} {t'} {m} {q} {reply} met step small p shows =
    ran-as (ap showing met.outcome ∙ same (seen t)) step (shorter (omega (arith, small)) (and_then p shows))
  where
    showing : Outcome Seen (List ℕ) → Called
    showing o = record { answer = o.answer; shown = shown_of o.answer o.buffer; state = o.state; memory = m }

    same : (x : Seen) → showing (unless_unsound (λ v. request.get v m q reply) x reply) ≡ called (get q reply) x m
    same (sound v) = refl
    same (unsound u) = refl

-- ## The line

-- with the newline behind it
pub line-ran :
    {c : Call} {t t' : Target} {m m' : List ℕ} {k : ℕ} {w between w' : Writer}
    → CallRan c t m k w t' m' between
    → Wrote between (bytes_of "\n") 1 w'
    → LineRan c t m k w t' m' w'
unfolding line_of
line-ran p newline = record { step = p.step; state = p.state; memory = p.memory; line = and_then p.line newline }
