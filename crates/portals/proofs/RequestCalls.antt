-- What put and get decide: how, what it leaves, and what it lets them do.
use mathlib.Core.Path.{◌≡◌, refl}
use mathlib.Core.Bool.{true, false, ◌||◌, not}
use mathlib.Core.List.{List}
use Prim.Native.Nat.{ℕ, ◌≤◌}
use borrow.Author.Tests.{leb-true}
use lib.Dec.{eqb, leb}
use lib.ListN.{length}
use Rattle.matching.specs.Refusals.{none_bad}
use Rattle.matching.specs.Entry.{ANY}
use Rattle.matching.specs.Request.{bad_request_argument, arrival_of, ack_given}
use Rattle.matching.specs.declared.layout.Request.{Request}
use Rattle.matching.specs.declared.refusals.BadArgument.{BadArgument}
use Rattle.matching.specs.declared.request.Kind.{Kind}
use Rattle.matching.specs.declared.request.Violation.TheVariants as Violation
use Rattle.state.specs.Sizes.{MEMORY}
use Rattle.state.specs.View.{View}
use Rattle.state.specs.declared.layout.Target.{Target}
use Rattle.state.proofs.ListLaws.{cond_cases}
use Rattle.state.proofs.SoundLaws.{Sound, good-both}
use Rattle.requests.specs.Plan.{bytes_put, bytes_got}
use Rattle.requests.specs.Decision.{decide}
use Rattle.requests.specs.Parts.{BytesFit, OfDelivery, PartsAllow, Deliverable}
use Rattle.requests.specs.declared.plan.Plan.{Plan}
use Rattle.requests.specs.declared.decision.Decision.{Decision}
use Rattle.requests.proofs.RequestKept.{request-sound}
use Rattle.requests.proofs.DecisionLaws.{claim-follows}
use Rattle.portals.specs.Answers.{Answer, PRIORITY, OVERFLOW, is_refused}
use Rattle.portals.specs.Outcome.{Outcome, refusal}
use Rattle.portals.specs.Request.{delivery_answer, answer_by, request_tests, carried_out, requested, put, get, ByRules}
use Rattle.portals.proofs.GuardLaws.{guard-cases}

-- a request whose arguments are good asks for at most 65,536 bytes
pub requested-fits : (q : Request) (n : ℕ) → none_bad (bad_request_argument q n) ≡ true → n ≤ MEMORY
unfolding bad_request_argument
requested-fits q n e =
    let identity = good-both (not (eqb q.nid ANY || eqb q.pid ANY || eqb q.uid ANY)) _ BadArgument.Identity e in
    let ack = good-both (leb q.ack 3) _ BadArgument.Ack identity.1 in
    leb-true n 65536 (good-both (leb n 65536) _ BadArgument.Size ack.1).0

-- a request leaves a sound state sound
requested-sound : (v : View) (size : ℕ) (q : Request) (kind : Kind) (n : ℕ) (moved : Plan → List ℕ) (lent : List ℕ)
    → Sound v
    → Sound (requested v size q kind n moved lent).state
requested-sound v size q kind n moved lent s =
    let a = arrival_of q kind n in
    guard-cases (λ (o : Outcome View (List ℕ)). Sound o.state) (refusal v lent) (request_tests v size q n)
    (carried_out v q kind moved lent (decide v.entries v.headers q.portal a))
    (λ r. s)
    (λ passed. request-sound v q.portal a s (requested-fits q n passed.1.0))

pub put-sound : (v : View) (memory : List ℕ) (q : Request) (payload : List ℕ) → Sound v → Sound (put v memory q payload).state
unfolding put
put-sound v memory q payload s = requested-sound v (length memory) q Kind.Put (length payload) (bytes_put memory payload) memory s

pub get-sound : (v : View) (memory : List ℕ) (q : Request) (reply : List ℕ) → Sound v → Sound (get v memory q reply).state
unfolding get
get-sound v memory q reply s = requested-sound v (length memory) q Kind.Get (length reply) (bytes_got memory reply) reply s

-- a delivery answers PRIORITY or OVERFLOW
pub delivery-answers : (kind : Kind) (ack : ℕ) (p : Plan) → is_refused (delivery_answer kind ack p) ≡ false
delivery-answers kind ack p =
    let given = ack_given p.entry.entry.options kind ack in
    cond_cases (λ (x : Answer). is_refused x ≡ false) (eqb p.entry.entry.list 0)
    (PRIORITY p.message.accepted p.offset given)
    (OVERFLOW p.message.accepted p.offset given)
    (λ priority. refl)
    (λ overflow. refl)

-- what a request that is not refused answers is no refusal
pub decision-answers : (kind : Kind) (ack : ℕ) (d : Decision) → is_refused (answer_by kind ack d) ≡ false
decision-answers kind ack Decision.Drop = refl
decision-answers kind ack (Decision.Deny Violation.Permission) = refl
decision-answers kind ack (Decision.Deny Violation.Operation) = refl
decision-answers kind ack (Decision.Deliver p) = delivery-answers kind ack p

-- ## What a decision to deliver lets the bytes and the parts ask

module _ (t : Target) (size : ℕ) (q : Request) (kind : Kind) (n : ℕ) (d : Decision) (decides : ByRules t size q kind n d) where
  pub bytes-asked : OfDelivery (λ p. BytesFit size n p.message) d
  bytes-asked =
      claim-follows (Deliverable t n) (λ p. BytesFit size n p.message) (λ p h. rw decides.memory h.bytes) d decides.decides.deliverable

  pub parts-asked : OfDelivery (PartsAllow t) d
  parts-asked = claim-follows (Deliverable t n) (PartsAllow t) (λ p h. h.parts) d decides.decides.deliverable
