-- What crosses to a host: each answer as numbers, and what each exported call promises.
use Rattle.std.specs.Prelude.{◌≡◌, List, ℕ}
use Rattle.matching.specs.declared.layout.Entry.{Entry}
use Rattle.matching.specs.declared.layout.Request.{Request}
use Rattle.state.specs.View.{zero_event}
use Rattle.state.specs.declared.layout.Settings.{Settings}
use Rattle.state.specs.declared.layout.CounterChange.{CounterChange}
use Rattle.state.specs.declared.layout.CounterTest.{CounterTest}
use Rattle.state.specs.declared.layout.Event.{Event}
use Rattle.state.specs.declared.layout.Target.{Target}
use Rattle.portals.specs.Answers.{Answer, REFUSED, MADE, LINKED, TAKEN, DONE, SEARCHED, PRIORITY, OVERFLOW, DROPPED, PERM, OP, EVENT, NONE, COUNTER, REGISTER, READY, NOT_READY, REACHED, NONE_REACHED}
use Rattle.portals.specs.Answers.{new_answer, append_answer, plain_answer, search_answer, request_answer, event_answer, counter_answer, register_answer, ready_answer, poll_answer}
use Rattle.portals.specs.declared.answers.Done.{Done}
use Rattle.portals.specs.Promises.{NewMet, AppendMet, UnlinkMet, SearchMet, PutMet, GetMet, ReadEventMet, SetCounterMet, IncrementMet, ReadCounterMet, ReadRegisterMet, ReadyMet, PollMet}
use Rattle.gussetreed.specs.declared.layout.Reply.{Reply}
use Rattle.gussetreed.specs.declared.layout.EventReply.{EventReply}

abbrev pub reply : ℕ → ℕ → ℕ → ℕ → Reply
reply answer code value second = record { answer = answer; code = code; value = value; second = second }

-- document 01's words and values as numbers: which answer; a refusal's number or the ack; a value; a second one
abbrev pub reply_of : Answer → Reply
reply_of (REFUSED n) = reply 0 n 0 0
reply_of MADE = reply 1 0 0 0
reply_of (LINKED handle) = reply 2 0 handle 0
reply_of TAKEN = reply 3 0 0 0
reply_of DONE = reply 4 0 0 0
reply_of (SEARCHED n) = reply 5 0 n 0
reply_of (PRIORITY length offset ack) = reply 6 ack length offset
reply_of (OVERFLOW length offset ack) = reply 7 ack length offset
reply_of (DROPPED ack) = reply 8 ack 0 0
reply_of (PERM ack) = reply 9 ack 0 0
reply_of (OP ack) = reply 10 ack 0 0
-- the event itself: see event_reply_of
reply_of (EVENT e) = reply 11 0 0 0
reply_of NONE = reply 12 0 0 0
reply_of (COUNTER success failure) = reply 13 0 success failure
reply_of (REGISTER n) = reply 14 0 n 0
reply_of READY = reply 15 0 0 0
reply_of NOT_READY = reply 16 0 0 0
reply_of (REACHED place) = reply 17 0 place 0
reply_of NONE_REACHED = reply 18 0 0 0

-- the event of an event read's answer; all numbers 0 where it has none
abbrev pub event_in : Answer → Event
event_in (EVENT e) = e
event_in (REFUSED n) = zero_event
event_in MADE = zero_event
event_in (LINKED handle) = zero_event
event_in TAKEN = zero_event
event_in DONE = zero_event
event_in (SEARCHED n) = zero_event
event_in (PRIORITY length offset ack) = zero_event
event_in (OVERFLOW length offset ack) = zero_event
event_in (DROPPED ack) = zero_event
event_in (PERM ack) = zero_event
event_in (OP ack) = zero_event
event_in NONE = zero_event
event_in (COUNTER success failure) = zero_event
event_in (REGISTER n) = zero_event
event_in READY = zero_event
event_in NOT_READY = zero_event
event_in (REACHED place) = zero_event
event_in NONE_REACHED = zero_event

abbrev pub event_reply_of : Answer → EventReply
event_reply_of a = record { answer = (reply_of a).answer; code = (reply_of a).code; event = event_in a }

-- ## What a call promises

-- What the call of its name in `portals` promises, P, holds of some answer, and the reply r is that answer told in numbers. P says which
-- answer it is, in document 01's words, and `tell` goes by these alone: so the reply is the answer that the call's definition gives
-- (`by-definition` of proofs/Telling.antt), and no two answers are told alike (`read_back_lem` there).
pub record Told {A R : Type 0} (tell : A → R) (P : A → Type 0) (r : R) : Type 0 where
  pub answer : A
  pub met : P answer
  pub told : r ≡ tell answer

abbrev pub NewTold : Settings → Done Reply → Type 0
NewTold s r = Told (λ a. reply_of (new_answer a)) (λ a. NewMet s (record { target = r.target; answer = a })) r.answer

abbrev pub AppendTold : Target → Entry → Done Reply → Type 0
AppendTold t e r = Told (λ a. reply_of (append_answer a)) (λ a. AppendMet t e (record { target = r.target; answer = a })) r.answer

abbrev pub UnlinkTold : Target → ℕ → Done Reply → Type 0
UnlinkTold t handle r = Told (λ a. reply_of (plain_answer a)) (λ a. UnlinkMet t handle (record { target = r.target; answer = a })) r.answer

abbrev pub SearchTold : Target → Entry → Done Reply → Type 0
SearchTold t e r = Told (λ a. reply_of (search_answer a)) (λ a. SearchMet t e (record { target = r.target; answer = a })) r.answer

-- the memory before and after
abbrev pub PutTold : Target → List ℕ → Request → List ℕ → Done Reply → List ℕ → Type 0
PutTold t memory q payload r memory' =
    Told (λ a. reply_of (request_answer a)) (λ a. PutMet t memory q payload (record { target = r.target; answer = a }) memory') r.answer

-- the reply buffer before and after; the memory is lent to be read only
abbrev pub GetTold : Target → List ℕ → Request → List ℕ → Done Reply → List ℕ → Type 0
GetTold t memory q buffer r buffer' =
    Told (λ a. reply_of (request_answer a)) (λ a. GetMet t memory q buffer (record { target = r.target; answer = a }) buffer') r.answer

abbrev pub ReadEventTold : Target → Done EventReply → Type 0
ReadEventTold t r = Told (λ a. event_reply_of (event_answer a)) (λ a. ReadEventMet t (record { target = r.target; answer = a })) r.answer

abbrev pub SetCounterTold : Target → CounterChange → Done Reply → Type 0
SetCounterTold t x r = Told (λ a. reply_of (plain_answer a)) (λ a. SetCounterMet t x (record { target = r.target; answer = a })) r.answer

abbrev pub IncrementTold : Target → CounterChange → Done Reply → Type 0
IncrementTold t x r = Told (λ a. reply_of (plain_answer a)) (λ a. IncrementMet t x (record { target = r.target; answer = a })) r.answer

abbrev pub ReadCounterTold : Target → ℕ → Reply → Type 0
ReadCounterTold t k r = Told (λ a. reply_of (counter_answer a)) (ReadCounterMet t k) r

abbrev pub ReadRegisterTold : Target → ℕ → Reply → Type 0
ReadRegisterTold t k r = Told (λ a. reply_of (register_answer a)) (ReadRegisterMet t k) r

abbrev pub ReadyTold : Target → CounterTest → Reply → Type 0
ReadyTold t x r = Told (λ a. reply_of (ready_answer a)) (ReadyMet t x) r

abbrev pub PollTold : Target → List ℕ → List ℕ → Reply → Type 0
PollTold t ks tests r = Told (λ a. reply_of (poll_answer a)) (PollMet t ks tests) r
