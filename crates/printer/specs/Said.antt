-- Document 01, "Script and printout": what a line says of a call: "number, then ..". What follows the number begins with a space.
use Rattle.std.specs.Prelude.{ℕ, cond, List, [], ◌∷◌, ◌++◌, eqb, take}
use Prim.Native.String.{String}
use Rattle.matching.specs.declared.events.EventKind.{EventKind}
use Rattle.matching.specs.declared.events.FailType.{FailType}
use Rattle.matching.specs.Kinds.{event_kind, fail_type}
use Rattle.state.specs.declared.layout.Event.{Event}
use Rattle.portals.specs.Answers.{Answer, REFUSED, MADE, LINKED, TAKEN, DONE, SEARCHED, PRIORITY, OVERFLOW, DROPPED, PERM, OP, EVENT, NONE, COUNTER, REGISTER, READY, NOT_READY, REACHED, NONE_REACHED}
use Rattle.text.specs.Text.{bytes_of, decimal_of, fields_of, hex_of}

-- a word, then numbers, "all decimal"
abbrev pub word_and : String → List ℕ → List ℕ
word_and word numbers = bytes_of word ++ fields_of numbers

-- "REFUSED name", by the refusal's number; there are only 1 to 5
abbrev pub refusal_text : ℕ → List ℕ
refusal_text n =
    cond (eqb n 1) (word_and " REFUSED BAD_STATE" [])
    (cond (eqb n 2) (word_and " REFUSED BAD_MEMORY" [])
    (cond (eqb n 3) (word_and " REFUSED ARG_INVALID" [])
    (cond (eqb n 4) (word_and " REFUSED NO_SPACE" [])
    (word_and " REFUSED IN_USE" []))))

-- the names of document 01, "Events"
abbrev pub kind_text : EventKind → List ℕ
kind_text EventKind.Link = bytes_of " LINK"
kind_text EventKind.Put = bytes_of " PUT"
kind_text EventKind.Get = bytes_of " GET"
kind_text EventKind.PutOverflow = bytes_of " PUT_OVERFLOW"
kind_text EventKind.GetOverflow = bytes_of " GET_OVERFLOW"
kind_text EventKind.Search = bytes_of " SEARCH"
kind_text EventKind.AutoUnlink = bytes_of " AUTO_UNLINK"
kind_text EventKind.AutoFree = bytes_of " AUTO_FREE"

abbrev pub fail_text : FailType → List ℕ
fail_text FailType.Ok = bytes_of " OK"
fail_text FailType.NoMatch = bytes_of " NO_MATCH"

-- "Fields: kind, fail type, portal, list, nid, pid, uid, match bits, ..
abbrev pub event_source : Event → List ℕ
event_source e = e.portal ∷ e.list ∷ e.nid ∷ e.pid ∷ e.uid ∷ e.matchbits ∷ []

-- .. requested length, accepted length, request's offset, place in memory, header data, user number", and gap
abbrev pub event_message : Event → List ℕ
event_message e = e.requested ∷ e.accepted ∷ e.offset ∷ e.place ∷ e.hdrdata ∷ e.user ∷ e.gap ∷ []

-- "EVENT with the fields and gap"
abbrev pub event_text : Event → List ℕ
event_text e =
    word_and " EVENT" []
    ++ (kind_text (event_kind e.kind)
    ++ (fail_text (fail_type e.fail)
    ++ (fields_of (event_source e)
    ++ fields_of (event_message e))))

-- "LINKED handle, TAKEN, DONE, SEARCHED n, COUNTER success failure, REGISTER value, PRIORITY or OVERFLOW length offset ack ..,
-- DROPPED, PERM or OP ack, EVENT with the fields and gap, NONE, or REFUSED name"
abbrev pub answer_text : Answer → List ℕ
answer_text (REFUSED n) = refusal_text n
answer_text (LINKED handle) = word_and " LINKED" (handle ∷ [])
answer_text TAKEN = word_and " TAKEN" []
answer_text DONE = word_and " DONE" []
answer_text (SEARCHED n) = word_and " SEARCHED" (n ∷ [])
answer_text (COUNTER success failure) = word_and " COUNTER" (success ∷ failure ∷ [])
answer_text (REGISTER value) = word_and " REGISTER" (value ∷ [])
answer_text (PRIORITY length offset ack) = word_and " PRIORITY" (length ∷ offset ∷ ack ∷ [])
answer_text (OVERFLOW length offset ack) = word_and " OVERFLOW" (length ∷ offset ∷ ack ∷ [])
answer_text (DROPPED ack) = word_and " DROPPED" (ack ∷ [])
answer_text (PERM ack) = word_and " PERM" (ack ∷ [])
answer_text (OP ack) = word_and " OP" (ack ∷ [])
answer_text (EVENT e) = event_text e
answer_text NONE = word_and " NONE" []
-- answers of calls that no script has
answer_text MADE = []
answer_text READY = []
answer_text NOT_READY = []
answer_text (REACHED place) = []
answer_text NONE_REACHED = []

-- the number of a call, and its answer
unfoldable pub said : ℕ → Answer → List ℕ
said k answer = decimal_of k ++ answer_text answer

-- a round number that an answer does not exceed: the longest is an event's, 6 + 13 + 9 + 13 * 21 = 301 bytes
abbrev pub TOLD : ℕ
TOLD = 330

-- with the number of its call: 20 more
abbrev pub SAID : ℕ
SAID = 350

-- "in lower hex, `-` if none"
abbrev pub shown_text : List ℕ → List ℕ
shown_text [] = bytes_of " -"
shown_text (b ∷ bs) = bytes_of " " ++ hex_of (b ∷ bs)

-- "(get: and accepted bytes ..)", which are the first of the reply
abbrev pub shown_of : Answer → List ℕ → List ℕ
shown_of (PRIORITY length offset ack) reply = shown_text (take length reply)
shown_of (OVERFLOW length offset ack) reply = shown_text (take length reply)
shown_of (REFUSED n) reply = []
shown_of (LINKED handle) reply = []
shown_of TAKEN reply = []
shown_of DONE reply = []
shown_of (SEARCHED n) reply = []
shown_of (COUNTER success failure) reply = []
shown_of (REGISTER value) reply = []
shown_of (DROPPED ack) reply = []
shown_of (PERM ack) reply = []
shown_of (OP ack) reply = []
shown_of (EVENT e) reply = []
shown_of NONE reply = []
shown_of MADE reply = []
shown_of READY reply = []
shown_of NOT_READY reply = []
shown_of (REACHED place) reply = []
shown_of NONE_REACHED reply = []
