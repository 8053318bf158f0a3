-- A step of a list of calls, as it is heard: a call with its answer, or a write of the host. Nothing here can speak of a target.
use Rattle.std.specs.Prelude.{Bool, cond, List, [], ◌∷◌, ◌++◌, ℕ, ◌+◌, eqb}
use Rattle.state.specs.declared.layout.Event.{Event}
use Rattle.portals.specs.Answers.{Answer, REFUSED, MADE, LINKED, TAKEN, DONE, SEARCHED, PRIORITY, OVERFLOW, DROPPED, PERM, OP, EVENT, NONE, COUNTER, REGISTER, READY, NOT_READY, REACHED, NONE_REACHED}
use Rattle.portals.specs.Calls.{Call}

pub data Step : Type 0 where
  -- put and get are lent the memory that stands beside the state
  called : Call → Answer → Step
  -- a put or a get that was lent another memory, of this length
  elsewhere : ℕ → Answer → Step
  -- "each host write between calls is a step of the list": the memory before and after it
  wrote : List ℕ → List ℕ → Step

abbrev pub answers_in : Step → List Answer
answers_in (called c a) = a ∷ []
answers_in (elsewhere n a) = a ∷ []
answers_in (wrote m m') = []

-- ## The words of the answers

-- a number for each word, by which answers are told apart whatever values they carry
abbrev pub word : Answer → ℕ
word (REFUSED n) = 0
word MADE = 1
word (LINKED h) = 2
word TAKEN = 3
word DONE = 4
word (SEARCHED n) = 5
word (PRIORITY n o a) = 6
word (OVERFLOW n o a) = 7
word (DROPPED a) = 8
word (PERM a) = 9
word (OP a) = 10
word (EVENT e) = 11
word NONE = 12
word (COUNTER s f) = 13
word (REGISTER n) = 14
word READY = 15
word NOT_READY = 16
word (REACHED n) = 17
word NONE_REACHED = 18

abbrev pub says_linked : Answer → Bool
says_linked a = eqb (word a) 2

abbrev pub says_taken : Answer → Bool
says_taken a = eqb (word a) 3

abbrev pub says_done : Answer → Bool
says_done a = eqb (word a) 4

abbrev pub says_searched : Answer → Bool
says_searched a = eqb (word a) 5

abbrev pub says_priority : Answer → Bool
says_priority a = eqb (word a) 6

abbrev pub says_overflow : Answer → Bool
says_overflow a = eqb (word a) 7

abbrev pub says_dropped : Answer → Bool
says_dropped a = eqb (word a) 8

abbrev pub says_perm : Answer → Bool
says_perm a = eqb (word a) 9

abbrev pub says_op : Answer → Bool
says_op a = eqb (word a) 10

-- how many answers pass a test
abbrev pub count : (Answer → Bool) → List Answer → ℕ
count p [] = 0
count p (a ∷ rest) = cond (p a) 1 0 + count p rest

-- LINKED's handle; 0 in any other answer
abbrev pub handle_in : Answer → ℕ
handle_in (REFUSED n) = 0
handle_in MADE = 0
handle_in (LINKED h) = h
handle_in TAKEN = 0
handle_in DONE = 0
handle_in (SEARCHED n) = 0
handle_in (PRIORITY n o a) = 0
handle_in (OVERFLOW n o a) = 0
handle_in (DROPPED a) = 0
handle_in (PERM a) = 0
handle_in (OP a) = 0
handle_in (EVENT e) = 0
handle_in NONE = 0
handle_in (COUNTER s f) = 0
handle_in (REGISTER n) = 0
handle_in READY = 0
handle_in NOT_READY = 0
handle_in (REACHED n) = 0
handle_in NONE_REACHED = 0

-- EVENT's event; none in any other answer
abbrev pub event_in : Answer → List Event
event_in (REFUSED n) = []
event_in MADE = []
event_in (LINKED h) = []
event_in TAKEN = []
event_in DONE = []
event_in (SEARCHED n) = []
event_in (PRIORITY n o a) = []
event_in (OVERFLOW n o a) = []
event_in (DROPPED a) = []
event_in (PERM a) = []
event_in (OP a) = []
event_in (EVENT e) = e ∷ []
event_in NONE = []
event_in (COUNTER s f) = []
event_in (REGISTER n) = []
event_in READY = []
event_in NOT_READY = []
event_in (REACHED n) = []
event_in NONE_REACHED = []

-- "The .. events read so far"
abbrev pub events_read : List Answer → List Event
events_read [] = []
events_read (a ∷ rest) = event_in a ++ events_read rest
