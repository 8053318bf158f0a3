-- The answers in document 01's words, with the numbers and values that it gives each, and what each call's own answer means in them.
use Rattle.std.specs.Prelude.{Bool, true, false, cond, ℕ, Option, None, Some, Result, Ok, Err}
use Rattle.matching.specs.Refusals.{refusal_number}
use Rattle.matching.specs.declared.refusals.Refusal.{Refusal}
use Rattle.state.specs.declared.layout.Event.{Event}
use Rattle.state.specs.declared.layout.Counter.{Counter}
use Rattle.portals.specs.declared.answers.Appended.{Appended}
use Rattle.portals.specs.declared.answers.Appended.TheVariants as Append
use Rattle.portals.specs.declared.answers.RequestAnswer.{RequestAnswer}
use Rattle.portals.specs.declared.answers.RequestAnswer.TheVariants as Request

-- document 01's words with its values; MADE, READY, NOT_READY and REACHED are ours, of calls that no script has
pub data Answer : Type 0 where
  -- with a refusal's number, 1 to 5
  REFUSED : ℕ → Answer
  MADE : Answer
  -- the new entry's handle
  LINKED : ℕ → Answer
  TAKEN : Answer
  DONE : Answer
  -- how many
  SEARCHED : ℕ → Answer
  -- accepted length, rule 1's offset, ack
  PRIORITY : ℕ → ℕ → ℕ → Answer
  OVERFLOW : ℕ → ℕ → ℕ → Answer
  -- the ack asked
  DROPPED : ℕ → Answer
  PERM : ℕ → Answer
  OP : ℕ → Answer
  EVENT : Event → Answer
  NONE : Answer
  -- success, failure
  COUNTER : ℕ → ℕ → Answer
  REGISTER : ℕ → Answer
  READY : Answer
  NOT_READY : Answer
  -- the place in the list, from 0
  REACHED : ℕ → Answer
  NONE_REACHED : Answer

-- a refusal "returns its number only"
abbrev pub refused : Refusal → Answer
refused r = REFUSED (refusal_number r)

abbrev pub is_refused : Answer → Bool
is_refused (REFUSED n) = true
is_refused MADE = false
is_refused (LINKED h) = false
is_refused TAKEN = false
is_refused DONE = false
is_refused (SEARCHED n) = false
is_refused (PRIORITY n o a) = false
is_refused (OVERFLOW n o a) = false
is_refused (DROPPED a) = false
is_refused (PERM a) = false
is_refused (OP a) = false
is_refused (EVENT e) = false
is_refused NONE = false
is_refused (COUNTER s f) = false
is_refused (REGISTER n) = false
is_refused READY = false
is_refused NOT_READY = false
is_refused (REACHED n) = false
is_refused NONE_REACHED = false

-- ## What the answer of each call means

-- a call that is not refused says what it found or did
abbrev pub answered : {A : Type 0} → (A → Answer) → Result A Refusal → Answer
answered says (Ok a) = says a
answered says (Err r) = refused r

abbrev pub new_answer : Result Unit Refusal → Answer
new_answer r = answered (λ u. MADE) r

abbrev pub appended_as : Appended → Answer
appended_as (Append.Linked h) = LINKED h
appended_as Append.Taken = TAKEN

abbrev pub append_answer : Result Appended Refusal → Answer
append_answer r = answered appended_as r

-- of an unlink, a counter that is set and one that is incremented
abbrev pub plain_answer : Result Unit Refusal → Answer
plain_answer r = answered (λ u. DONE) r

abbrev pub search_answer : Result ℕ Refusal → Answer
search_answer r = answered SEARCHED r

abbrev pub taken_as : RequestAnswer → Answer
taken_as (Request.Priority n o a) = PRIORITY n o a
taken_as (Request.Overflow n o a) = OVERFLOW n o a
taken_as (Request.Dropped a) = DROPPED a
taken_as (Request.PermissionViolation a) = PERM a
taken_as (Request.OperationViolation a) = OP a

abbrev pub request_answer : Result RequestAnswer Refusal → Answer
request_answer r = answered taken_as r

abbrev pub read_as : Option Event → Answer
read_as (Some e) = EVENT e
read_as None = NONE

abbrev pub event_answer : Result (Option Event) Refusal → Answer
event_answer r = answered read_as r

abbrev pub counter_answer : Result Counter Refusal → Answer
counter_answer r = answered (λ c. COUNTER c.success c.failure) r

abbrev pub register_answer : Result ℕ Refusal → Answer
register_answer r = answered REGISTER r

abbrev pub ready_answer : Result Bool Refusal → Answer
ready_answer r = answered (λ passed. cond passed READY NOT_READY) r

-- the place that is reached, or none
abbrev pub reached_answer : Option ℕ → Answer
reached_answer None = NONE_REACHED
reached_answer (Some i) = REACHED i

abbrev pub poll_answer : Result (Option ℕ) Refusal → Answer
poll_answer r = answered reached_answer r
