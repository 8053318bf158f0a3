-- What each public call promises, for every state, sound or not, and every input.
use Rattle.std.specs.Prelude.{◌≡◌, Bool, true, List, ℕ, Option, Result}
use Rattle.matching.specs.declared.refusals.Refusal.{Refusal}
use Rattle.matching.specs.declared.layout.Entry.{Entry}
use Rattle.matching.specs.declared.layout.Request.{Request}
use Rattle.state.specs.View.{View, empty_target}
use Rattle.state.specs.Soundness.{Seen, sound, seen}
use Rattle.state.specs.declared.layout.Settings.{Settings}
use Rattle.state.specs.declared.layout.CounterChange.{CounterChange}
use Rattle.state.specs.declared.layout.CounterTest.{CounterTest}
use Rattle.state.specs.declared.layout.Target.{Target}
use Rattle.state.specs.declared.layout.Event.{Event}
use Rattle.state.specs.declared.layout.Counter.{Counter}
use Rattle.portals.specs.Answers.{Answer, is_refused, new_answer, append_answer, plain_answer, search_answer, request_answer, event_answer, counter_answer, register_answer, ready_answer, poll_answer}
use Rattle.portals.specs.Outcome.{Outcome, unless_unsound, read_unless_unsound}
use Rattle.portals.specs.Making.{new}
use Rattle.portals.specs.EventRead.{read_event}
use Rattle.portals.specs.CounterCalls.{set_counter, increment, read_counter, read_register, ready, poll}
use Rattle.portals.specs.Request.{put, get}
use Rattle.portals.specs.EarlyMessages.{append, unlink, search}
use Rattle.portals.specs.declared.answers.Appended.{Appended}
use Rattle.portals.specs.declared.answers.RequestAnswer.{RequestAnswer}
use Rattle.portals.specs.declared.answers.Done.{Done}

-- A call that may change the state: lent the state t and a buffer, it gives an answer and leaves a state and the buffer.
-- `outcome` says answer, state and buffer in one equation, that a sound state stays sound, and BAD_STATE for an unsound one.
-- `unchanged`: a refusal leaves the state the very same value, not only the same view of it.
pub record Met {B : Type 0} (call : View → Outcome View B) (t : Target) (lent : B) (answer : Answer) (t' : Target) (left : B) : Type 0 where
  pub outcome : ◌≡◌ {A = Outcome Seen B} (record { answer = answer; state = seen t'; buffer = left }) (unless_unsound call (seen t) lent)
  pub unchanged : is_refused answer ≡ true → t' ≡ t

-- A call that only reads, and is not lent the state to change.
pub record ReadMet (call : View → Answer) (t : Target) (answer : Answer) : Type 0 where
  pub outcome : answer ≡ read_unless_unsound call (seen t)

-- Making a target: there is no state before it. What it makes is `empty_target` in every bit, and sound, also beside a refusal.
pub record NewMet (s : Settings) (r : Done (Result Unit Refusal)) : Type 0 where
  pub answer : new_answer r.answer ≡ (new s).answer
  pub target : r.target ≡ empty_target (new s).state.size
  pub state : seen r.target ≡ sound (new s).state

-- ## One for each call

abbrev pub AppendMet : Target → Entry → Done (Result Appended Refusal) → Type 0
AppendMet t e r = Met (λ v. append v e) t tt (append_answer r.answer) r.target tt

abbrev pub UnlinkMet : Target → ℕ → Done (Result Unit Refusal) → Type 0
UnlinkMet t handle r = Met (λ v. unlink v handle) t tt (plain_answer r.answer) r.target tt

abbrev pub SearchMet : Target → Entry → Done (Result ℕ Refusal) → Type 0
SearchMet t e r = Met (λ v. search v e) t tt (search_answer r.answer) r.target tt

-- the memory before and after
abbrev pub PutMet : Target → List ℕ → Request → List ℕ → Done (Result RequestAnswer Refusal) → List ℕ → Type 0
PutMet t memory q payload r memory' =
    Met (λ v. put v memory q payload) t memory (request_answer r.answer) r.target memory'

-- the reply before and after; the memory is lent to be read only
abbrev pub GetMet : Target → List ℕ → Request → List ℕ → Done (Result RequestAnswer Refusal) → List ℕ → Type 0
GetMet t memory q reply r reply' =
    Met (λ v. get v memory q reply) t reply (request_answer r.answer) r.target reply'

abbrev pub ReadEventMet : Target → Done (Result (Option Event) Refusal) → Type 0
ReadEventMet t r = Met read_event t tt (event_answer r.answer) r.target tt

abbrev pub SetCounterMet : Target → CounterChange → Done (Result Unit Refusal) → Type 0
SetCounterMet t x r = Met (λ v. set_counter v x) t tt (plain_answer r.answer) r.target tt

abbrev pub IncrementMet : Target → CounterChange → Done (Result Unit Refusal) → Type 0
IncrementMet t x r = Met (λ v. increment v x) t tt (plain_answer r.answer) r.target tt

abbrev pub ReadCounterMet : Target → ℕ → Result Counter Refusal → Type 0
ReadCounterMet t k r = ReadMet (λ v. read_counter v k) t (counter_answer r)

abbrev pub ReadRegisterMet : Target → ℕ → Result ℕ Refusal → Type 0
ReadRegisterMet t k r = ReadMet (λ v. read_register v k) t (register_answer r)

abbrev pub ReadyMet : Target → CounterTest → Result Bool Refusal → Type 0
ReadyMet t x r = ReadMet (λ v. ready v x) t (ready_answer r)

abbrev pub PollMet : Target → List ℕ → List ℕ → Result (Option ℕ) Refusal → Type 0
PollMet t ks tests r = ReadMet (λ v. poll v ks tests) t (poll_answer r)
