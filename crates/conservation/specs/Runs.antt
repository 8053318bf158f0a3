-- Lists of calls on a target: each step is a public call, by its promise alone, or a write of the host.
use Rattle.std.specs.Prelude.{◌≡◌, Bool, false, List, [], ◌∷◌, ℕ, eqb, length, Option, Result}
use Rattle.matching.specs.declared.refusals.Refusal.{Refusal}
use Rattle.matching.specs.declared.layout.Entry.{Entry}
use Rattle.matching.specs.declared.layout.Request.{Request}
use Rattle.state.specs.declared.layout.Event.{Event}
use Rattle.state.specs.declared.layout.Counter.{Counter}
use Rattle.state.specs.declared.layout.CounterChange.{CounterChange}
use Rattle.state.specs.declared.layout.CounterTest.{CounterTest}
use Rattle.state.specs.declared.layout.Target.{Target}
use Rattle.portals.specs.Answers.{Answer, append_answer, plain_answer, search_answer, request_answer, event_answer, counter_answer, register_answer, ready_answer, poll_answer}
use Rattle.portals.specs.Calls.{Call}
use Rattle.portals.specs.Promises.{AppendMet, UnlinkMet, SearchMet, PutMet, GetMet, ReadEventMet, SetCounterMet, IncrementMet, ReadCounterMet, ReadRegisterMet, ReadyMet, PollMet}
use Rattle.portals.specs.declared.answers.Appended.{Appended}
use Rattle.portals.specs.declared.answers.RequestAnswer.{RequestAnswer}
use Rattle.portals.specs.declared.answers.Done.{Done}
use Rattle.conservation.specs.Steps.{Step, called, elsewhere, wrote}

-- a list of steps is written as a log; a line of it is the step, and the memory as the step begins
pub record Line : Type 0 where
  pub step : Step
  pub memory : List ℕ

abbrev pub line : List ℕ → Call → Answer → Line
line m c answer = record { step = called c answer; memory = m }

-- of a put or a get that was lent another memory
abbrev pub line_elsewhere : List ℕ → List ℕ → Answer → Line
line_elsewhere m lent answer = record { step = elsewhere (length lent) answer; memory = m }

-- One step: from a target, and "memory of the target's size" beside it, to the next target and memory. A call is here by the record that
-- its `ensures` cites (`portals`, proofs/Promised.antt). "a call that is lent memory, unless refused BAD_MEMORY, is lent this one, any
-- other call leaves it"
pub data Stepped : Target → List ℕ → Line → Target → List ℕ → Type 0 where
  append : {t : Target} {m : List ℕ} {e : Entry} (r : Done (Result Appended Refusal))
      → AppendMet t e r
      → Stepped t m (line m (Call.append e) (append_answer r.answer)) r.target m
  unlink : {t : Target} {m : List ℕ} {handle : ℕ} (r : Done (Result Unit Refusal))
      → UnlinkMet t handle r
      → Stepped t m (line m (Call.unlink handle) (plain_answer r.answer)) r.target m
  search : {t : Target} {m : List ℕ} {e : Entry} (r : Done (Result ℕ Refusal))
      → SearchMet t e r
      → Stepped t m (line m (Call.search e) (search_answer r.answer)) r.target m
  put : {t : Target} {m m' : List ℕ} {q : Request} {payload : List ℕ} (r : Done (Result RequestAnswer Refusal))
      → PutMet t m q payload r m'
      → Stepped t m (line m (Call.put q payload) (request_answer r.answer)) r.target m'
  -- lent a memory of another length
  put_elsewhere : {t : Target} {m : List ℕ} (lent : List ℕ) {lent' : List ℕ} (q : Request) (payload : List ℕ)
      (r : Done (Result RequestAnswer Refusal))
      → PutMet t lent q payload r lent'
      → eqb (length lent) (length m) ≡ false
      → Stepped t m (line_elsewhere m lent (request_answer r.answer)) r.target m
  get : {t : Target} {m : List ℕ} {q : Request} {reply reply' : List ℕ} (r : Done (Result RequestAnswer Refusal))
      → GetMet t m q reply r reply'
      → Stepped t m (line m (Call.get q reply) (request_answer r.answer)) r.target m
  get_elsewhere : {t : Target} {m : List ℕ} (lent : List ℕ) (q : Request) {reply reply' : List ℕ}
      (r : Done (Result RequestAnswer Refusal))
      → GetMet t lent q reply r reply'
      → eqb (length lent) (length m) ≡ false
      → Stepped t m (line_elsewhere m lent (request_answer r.answer)) r.target m
  read_event : {t : Target} {m : List ℕ} (r : Done (Result (Option Event) Refusal))
      → ReadEventMet t r
      → Stepped t m (line m Call.read_event (event_answer r.answer)) r.target m
  set_counter : {t : Target} {m : List ℕ} {x : CounterChange} (r : Done (Result Unit Refusal))
      → SetCounterMet t x r
      → Stepped t m (line m (Call.set_counter x) (plain_answer r.answer)) r.target m
  increment : {t : Target} {m : List ℕ} {x : CounterChange} (r : Done (Result Unit Refusal))
      → IncrementMet t x r
      → Stepped t m (line m (Call.increment x) (plain_answer r.answer)) r.target m
  read_counter : {t : Target} {m : List ℕ} {k : ℕ} (r : Result Counter Refusal)
      → ReadCounterMet t k r
      → Stepped t m (line m (Call.read_counter k) (counter_answer r)) t m
  read_register : {t : Target} {m : List ℕ} {k : ℕ} (r : Result ℕ Refusal)
      → ReadRegisterMet t k r
      → Stepped t m (line m (Call.read_register k) (register_answer r)) t m
  ready : {t : Target} {m : List ℕ} {x : CounterTest} (r : Result Bool Refusal)
      → ReadyMet t x r
      → Stepped t m (line m (Call.ready x) (ready_answer r)) t m
  poll : {t : Target} {m : List ℕ} {ks tests : List ℕ} (r : Result (Option ℕ) Refusal)
      → PollMet t ks tests r
      → Stepped t m (line m (Call.poll ks tests) (poll_answer r)) t m
  -- the host writes the memory as it likes
  host : {t : Target} {m m' : List ℕ} → length m' ≡ length m → Stepped t m (record { step = wrote m m'; memory = m }) t m'

-- A list of steps: "Each gets the state the last left, which nobody else writes."
pub data Ran : Target → List ℕ → List Line → Target → List ℕ → Type 0 where
  none : {t : Target} {m : List ℕ} → Ran t m [] t m
  next : {t t' t'' : Target} {m m' m'' : List ℕ} {l : Line} {ls : List Line}
      → Stepped t m l t' m'
      → Ran t' m' ls t'' m''
      → Ran t m (l ∷ ls) t'' m''
