-- How put and get keep their promises: where the decision is the rules', and every part, the answer and the buffer are left as it says.
use Rattle.std.specs.Prelude.{Result, Ok, Err}
use mathlib.Core.Path.{◌≡◌, refl}
use mathlib.Core.Bool.{true}
use mathlib.Core.List.{List}
use Prim.Native.Nat.{ℕ}
use lib.ListN.{length}
use Rattle.matching.specs.Request.{arrival_of}
use Rattle.matching.specs.declared.layout.Request.{Request}
use Rattle.matching.specs.declared.request.Kind.{Kind}
use Rattle.matching.specs.declared.request.Violation.TheVariants as Violation
use Rattle.matching.specs.declared.refusals.Refusal.{Refusal}
use Rattle.state.specs.View.{view_of}
use Rattle.state.specs.Soundness.{counts_kept}
use Rattle.state.specs.declared.layout.Target.{Target}
use Rattle.requests.specs.Plan.{bytes_put, bytes_got}
use Rattle.requests.specs.Decision.{decide, if_delivered, request_state}
use Rattle.requests.specs.Parts.{TargetAfter}
use Rattle.requests.specs.declared.plan.Plan.{Plan}
use Rattle.requests.specs.declared.decision.Decision.{Decision}
use Rattle.portals.specs.Answers.{answered}
use Rattle.portals.specs.Request.{answer_by, request_tests, carried_out, put, get, DecidedAs}
use Rattle.portals.specs.Promises.{Met}
use Rattle.portals.proofs.RequestCalls.{put-sound, get-sound, decision-answers}
use Rattle.portals.proofs.MetLaws.{fits-counts, Done, Guarded, done-kept, refused-kept}

-- ## The state that is left

module _ (t t' : Target) where
  -- what it holds is what the decision says
  left-view : (d : Decision) → TargetAfter t d t' → view_of t' ≡ request_state (view_of t) d
  left-view Decision.Drop l = rw (l.size, l.last, l.entries, l.unexpected, l.queue, l.counters, l.registers)
  left-view (Decision.Deny Violation.Permission) l = rw (l.size, l.last, l.entries, l.unexpected, l.queue, l.counters, l.registers)
  left-view (Decision.Deny Violation.Operation) l = rw (l.size, l.last, l.entries, l.unexpected, l.queue, l.counters, l.registers)
  left-view (Decision.Deliver p) l =
      rw (l.size, l.last, l.entries.held, l.unexpected.held, l.queue.held, l.counters, l.registers)

  -- its counts are kept
  left-counts : (d : Decision) → counts_kept t ≡ true → TargetAfter t d t' → counts_kept t' ≡ true
  left-counts Decision.Drop h l = rw (l.entries, l.unexpected, l.queue) h
  left-counts (Decision.Deny v) h l = rw (l.entries, l.unexpected, l.queue) h
  left-counts (Decision.Deliver p) h l =
      fits-counts t' (record { entries = l.entries.fits; unexpected = l.unexpected.fits; queue = l.queue.fits })

  request-done : (q : Request) (kind : Kind) (moved : Plan → List ℕ) (lent : List ℕ) (d : Decision)
      → counts_kept t ≡ true
      → TargetAfter t d t'
      → Done (carried_out (view_of t) q kind moved lent d) t' (if_delivered moved lent d) (answer_by kind q.ack d)
  request-done q kind moved lent d h l = record {
    answers = refl;
    granted = decision-answers kind q.ack d;
    state = left-view d l;
    buffer = refl;
    counts = left-counts d h l;
  }

-- ## The promise

module _ (memory : List ℕ) (q : Request) where
  pub put-guarded : (payload : List ℕ)
      → Guarded (λ v. put v memory q payload)
      (λ v. carried_out v q Kind.Put (bytes_put memory payload) memory (decide v.entries v.headers q.portal (arrival_of q Kind.Put (length payload))))
      (λ v. request_tests v (length memory) q (length payload))
      memory
  unfolding put
  put-guarded payload = record { is = λ v. refl; kept = λ v s. put-sound v memory q payload s }

  pub get-guarded : (reply : List ℕ)
      → Guarded (λ v. get v memory q reply)
      (λ v. carried_out v q Kind.Get (bytes_got memory reply) reply (decide v.entries v.headers q.portal (arrival_of q Kind.Get (length reply))))
      (λ v. request_tests v (length memory) q (length reply))
      reply
  unfolding get
  get-guarded reply = record { is = λ v. refl; kept = λ v s. get-sound v memory q reply s }

-- a request ends as it was decided: refused, all stays as it was; else the target is left as the decision says
abbrev pub EndedAs : Target → Result Decision Refusal → Target → Type 0
EndedAs t (Err r) t' = t' ≡ t
EndedAs t (Ok d) t' = TargetAfter t d t'

-- the lent buffer then: with the bytes that a delivery moves, else as it was
abbrev pub moved_if : (Plan → List ℕ) → List ℕ → Result Decision Refusal → List ℕ
moved_if moved lent (Err r) = lent
moved_if moved lent (Ok d) = if_delivered moved lent d

module _ (t t' : Target) (memory : List ℕ) (q : Request) where
  -- refused or not, a put that is decided and ends so keeps its promise
  pub put-met : (payload : List ℕ) (d : Result Decision Refusal)
      → DecidedAs t (length memory) q Kind.Put (length payload) d
      → EndedAs t d t'
      → Met (λ v. put v memory q payload) t memory (answered (answer_by Kind.Put q.ack) d) t' (moved_if (bytes_put memory payload) memory d)
  put-met payload (Err r) refused same = rw same (refused-kept (put-guarded memory q payload) t r refused)
  put-met payload (Ok d) decided after =
      done-kept (put-guarded memory q payload) t t' (if_delivered (bytes_put memory payload) memory d) (answer_by Kind.Put q.ack d) decided.admits
      (rw (← decided.decides.is)
      (request-done t t' q Kind.Put (bytes_put memory payload) memory d (fits-counts t (decided.admits.fits refl)) after))

  -- so does a get
  pub get-met : (reply : List ℕ) (d : Result Decision Refusal)
      → DecidedAs t (length memory) q Kind.Get (length reply) d
      → EndedAs t d t'
      → Met (λ v. get v memory q reply) t reply (answered (answer_by Kind.Get q.ack) d) t' (moved_if (bytes_got memory reply) reply d)
  get-met reply (Err r) refused same = rw same (refused-kept (get-guarded memory q reply) t r refused)
  get-met reply (Ok d) decided after =
      done-kept (get-guarded memory q reply) t t' (if_delivered (bytes_got memory reply) reply d) (answer_by Kind.Get q.ack d) decided.admits
      (rw (← decided.decides.is)
      (request-done t t' q Kind.Get (bytes_got memory reply) reply d (fits-counts t (decided.admits.fits refl)) after))
