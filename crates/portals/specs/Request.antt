-- Document 01, "Request": put and get. What becomes of a request, and what that leaves, is in `requests` (rules 3 to 7).
use Rattle.std.specs.Prelude.{◌≡◌, cond, List, [], ◌∷◌, ℕ, eqb, length, Result, Ok, Err}
use Rattle.matching.specs.Request.{bad_request_argument, arrival_of, ack_asked, ack_given}
use Rattle.matching.specs.declared.layout.Request.{Request}
use Rattle.matching.specs.declared.request.Kind.{Kind}
use Rattle.matching.specs.declared.refusals.Refusal.{Refusal}
use Rattle.matching.specs.declared.request.Violation.{Violation}
use Rattle.state.specs.View.{View}
use Rattle.state.specs.declared.layout.Target.{Target}
use Rattle.requests.specs.Plan.{bytes_put, bytes_got}
use Rattle.requests.specs.Decision.{decide, if_delivered, request_state}
use Rattle.requests.specs.Parts.{Decides}
use Rattle.requests.specs.declared.plan.Plan.{Plan}
use Rattle.requests.specs.declared.decision.Decision.{Decision}
use Rattle.portals.specs.Refusals.{Condition, good_arguments}
use Rattle.portals.specs.Admission.{Admits}
use Rattle.portals.specs.Answers.{Answer, PRIORITY, OVERFLOW, DROPPED, PERM, OP}
use Rattle.portals.specs.Outcome.{Outcome, guarded}

-- ## The answer

-- "PRIORITY or OVERFLOW", by the list of the chosen entry, "with accepted length, rule 1's offset and ack"
abbrev pub delivery_answer : Kind → ℕ → Plan → Answer
delivery_answer kind ack p =
    cond (eqb p.entry.entry.list 0)
    (PRIORITY p.message.accepted p.offset (ack_given p.entry.entry.options kind ack))
    (OVERFLOW p.message.accepted p.offset (ack_given p.entry.entry.options kind ack))

-- "or DROPPED, PERM, OP with the ack asked"
abbrev pub answer_by : Kind → ℕ → Decision → Answer
answer_by kind ack Decision.Drop = DROPPED (ack_asked kind ack)
answer_by kind ack (Decision.Deny Violation.Permission) = PERM (ack_asked kind ack)
answer_by kind ack (Decision.Deny Violation.Operation) = OP (ack_asked kind ack)
answer_by kind ack (Decision.Deliver p) = delivery_answer kind ack p

-- ## The calls

-- BAD_MEMORY: "put or get: memory length differs from the state's", then ARG_INVALID
abbrev pub request_tests : View → ℕ → Request → ℕ → List Condition
request_tests v size q requested =
    record { passed = eqb size v.size; refusal = Refusal.BadMemory }
    ∷ good_arguments (bad_request_argument q requested)
    ∷ []

-- what a request answers and leaves, by what becomes of it; `moved`: the lent buffer with the bytes that a delivery moves
abbrev pub carried_out : View → Request → Kind → (Plan → List ℕ) → List ℕ → Decision → Outcome View (List ℕ)
carried_out v q kind moved lent d = record {
  answer = answer_by kind q.ack d;
  state = request_state v d;
  buffer = if_delivered moved lent d;
}

-- a request for so many bytes, with a memory of this size lent: its tests, and then the rules
abbrev pub requested : View → ℕ → Request → Kind → ℕ → (Plan → List ℕ) → List ℕ → Outcome View (List ℕ)
requested v size q kind n moved lent =
    guarded v lent (request_tests v size q n)
    (carried_out v q kind moved lent (decide v.entries v.headers q.portal (arrival_of q kind n)))

-- "The requested length is the payload's (put) ..". The buffer is the memory.
unfoldable pub put : View → List ℕ → Request → List ℕ → Outcome View (List ℕ)
put v memory q payload = requested v (length memory) q Kind.Put (length payload) (bytes_put memory payload) memory

-- ".. or the reply buffer's (get)". The buffer is the reply; the memory is only read.
unfoldable pub get : View → List ℕ → Request → List ℕ → Outcome View (List ℕ)
get v memory q reply = requested v (length memory) q Kind.Get (length reply) (bytes_got memory reply) reply

-- ## What the calls are made of. No promise of a call cites these.

-- a request that passed its tests, on a memory of the state's size, is decided by the rules
pub record ByRules (t : Target) (size : ℕ) (q : Request) (kind : Kind) (n : ℕ) (d : Decision) : Type 0 where
  pub admits : Admits (λ v. request_tests v size q n) t (Ok tt)
  pub memory : size ≡ t.size
  pub decides : Decides t q.portal (arrival_of q kind n) d

-- a request is refused as its tests say, or decided
abbrev pub DecidedAs : Target → ℕ → Request → Kind → ℕ → Result Decision Refusal → Type 0
DecidedAs t size q kind n (Err r) = Admits (λ v. request_tests v size q n) t (Err r)
DecidedAs t size q kind n (Ok d) = ByRules t size q kind n d
