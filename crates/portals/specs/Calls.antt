-- The calls on a target, each with its arguments: the state that it leaves, and its answer.
use Rattle.std.specs.Prelude.{List, ℕ}
use Rattle.matching.specs.declared.layout.Entry.{Entry}
use Rattle.matching.specs.declared.layout.Request.{Request}
use Rattle.state.specs.View.{View}
use Rattle.state.specs.declared.layout.CounterChange.{CounterChange}
use Rattle.state.specs.declared.layout.CounterTest.{CounterTest}
use Rattle.portals.specs.Answers.{Answer}
use Rattle.portals.specs.EventRead as events
use Rattle.portals.specs.CounterCalls as counters
use Rattle.portals.specs.Request as request
use Rattle.portals.specs.EarlyMessages as early

pub data Call : Type 0 where
  append : Entry → Call
  unlink : ℕ → Call
  -- the entry with the mode in place of the list
  search : Entry → Call
  -- with the payload
  put : Request → List ℕ → Call
  -- with the reply as it is lent
  get : Request → List ℕ → Call
  read_event : Call
  set_counter : CounterChange → Call
  increment : CounterChange → Call
  read_counter : ℕ → Call
  read_register : ℕ → Call
  ready : CounterTest → Call
  poll : List ℕ → List ℕ → Call

-- the state that a call leaves; put and get are lent a memory
abbrev pub state_after : View → List ℕ → Call → View
state_after v memory (append e) = (early.append v e).state
state_after v memory (unlink handle) = (early.unlink v handle).state
state_after v memory (search e) = (early.search v e).state
state_after v memory (put q payload) = (request.put v memory q payload).state
state_after v memory (get q reply) = (request.get v memory q reply).state
state_after v memory read_event = (events.read_event v).state
state_after v memory (set_counter x) = (counters.set_counter v x).state
state_after v memory (increment x) = (counters.increment v x).state
state_after v memory (read_counter k) = v
state_after v memory (read_register k) = v
state_after v memory (ready x) = v
state_after v memory (poll ks tests) = v

-- its answer
abbrev pub answer_to : View → List ℕ → Call → Answer
answer_to v memory (append e) = (early.append v e).answer
answer_to v memory (unlink handle) = (early.unlink v handle).answer
answer_to v memory (search e) = (early.search v e).answer
answer_to v memory (put q payload) = (request.put v memory q payload).answer
answer_to v memory (get q reply) = (request.get v memory q reply).answer
answer_to v memory read_event = (events.read_event v).answer
answer_to v memory (set_counter x) = (counters.set_counter v x).answer
answer_to v memory (increment x) = (counters.increment v x).answer
answer_to v memory (read_counter k) = counters.read_counter v k
answer_to v memory (read_register k) = counters.read_register v k
answer_to v memory (ready x) = counters.ready v x
answer_to v memory (poll ks tests) = counters.poll v ks tests
