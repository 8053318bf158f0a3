-- The calls of the example, by what they promise, are the run of specs/Example.antt, and the theorem holds of it.
use mathlib.Core.Path.{◌≡◌, refl, ap, sym, ◌∙◌, subst}
use mathlib.Core.Bool.{true}
use mathlib.Core.List.{List, [], ◌∷◌, ◌++◌}
use Rattle.std.specs.Prelude.{Result}
use Prim.Native.Nat.{ℕ}
use lib.ListN.{set}
use Rattle.matching.specs.Entry.{bad_entry_argument}
use Rattle.matching.specs.Request.{bad_request_argument, offset_used, available, bits_agree, allows_length, matches, verdict_on, accepted, place, local_after, unlinks, ack_given}
use Rattle.matching.specs.EarlyMessages.{takes_headers, fits}
use Rattle.matching.specs.declared.refusals.Refusal.{Refusal}
use Rattle.state.specs.View.{View, empty_view}
use Rattle.state.specs.Soundness.{Seen, sound, seen}
use Rattle.state.specs.declared.layout.Target.{Target}
use Rattle.requests.specs.Choice.{choose}
use Rattle.requests.specs.Plan.{message}
use Rattle.requests.specs.Decision.{decide}
use Rattle.early.specs.Walk.{walk_for}
use Rattle.early.specs.Handling.{handled}
use Rattle.portals.specs.Answers.{Answer, LINKED, TAKEN, OVERFLOW, append_answer, request_answer}
use Rattle.portals.specs.Outcome.{Outcome, unless_unsound}
use Rattle.portals.specs.Making as making
use Rattle.portals.specs.Request as request
use Rattle.portals.specs.EarlyMessages as early
use Rattle.claims.specs.BenchCases.{request_of}
use Rattle.portals.specs.Promises.{Met, NewMet, AppendMet, PutMet}
use Rattle.portals.specs.Calls.{append, put}
use Rattle.portals.specs.declared.answers.Appended.{Appended}
use Rattle.portals.specs.declared.answers.RequestAnswer.{RequestAnswer}
use Rattle.portals.specs.declared.answers.Done.{Done}
use Rattle.conservation.specs.Ledger.{chosen, add_event}
use Rattle.conservation.specs.Runs.{line, Stepped, Ran}
use Rattle.conservation.specs.Runs as runs
use Rattle.conservation.specs.Bytes.{ledger_of, Stay, Undisturbed, manages_local}
use Rattle.conservation.specs.Example.{overflow_entry, taking_entry, zeros, stored, touched, before, arrival, between, taking, log, abc, Example}
use Rattle.conservation.proofs.EveryList.{seen-is, conservation}

-- the states between the calls
unfoldable empty : View
empty = empty_view 16

unfoldable linked : View
linked = (early.append empty overflow_entry).state

unfoldable waiting : View
waiting = (request.put linked zeros (request_of 5 0) (97 ∷ 98 ∷ 99 ∷ [])).state

-- what the calls answer on them
linked-answer : (early.append empty overflow_entry).answer ≡ LINKED 1
unfolding empty early.append bad_entry_argument
linked-answer = refl

put-answer : (request.put linked zeros (request_of 5 0) (97 ∷ 98 ∷ 99 ∷ [])).answer ≡ OVERFLOW 3 0 1
unfolding linked empty early.append bad_entry_argument handled request.put bad_request_argument decide choose matches bits_agree allows_length verdict_on takes_headers message accepted available offset_used place ack_given
put-answer = refl

put-stores : (request.put linked zeros (request_of 5 0) (97 ∷ 98 ∷ 99 ∷ [])).buffer ≡ stored
unfolding linked empty early.append bad_entry_argument handled request.put bad_request_argument decide choose matches bits_agree allows_length verdict_on takes_headers message accepted available offset_used place
put-stores = refl

taken-answer : (early.append waiting taking_entry).answer ≡ TAKEN
unfolding waiting linked empty early.append bad_entry_argument handled request.put bad_request_argument decide choose matches bits_agree allows_length verdict_on takes_headers message accepted available offset_used place local_after unlinks walk_for fits
taken-answer = refl

-- the message's stay, from the ledger alone
stays : Stay log abc
unfolding chosen add_event matches bits_agree allows_length takes_headers message accepted available offset_used place local_after unlinks fits verdict_on
stays = record { earlier = before; arrival = arrival; between = between; compared = taking; later = []; split = refl; arrives = refl }

undisturbed-by : Undisturbed abc (ledger_of (before ++ (arrival ∷ []))) between
unfolding chosen add_event matches bits_agree allows_length takes_headers message accepted available offset_used place local_after unlinks fits verdict_on
undisturbed-by = (refl, refl, refl)

manages : manages_local abc ≡ true
unfolding chosen matches bits_agree allows_length takes_headers available offset_used local_after unlinks
manages = refl

handed_out : (ledger_of log).handed ≡ 0 ∷ []
unfolding chosen add_event matches bits_agree allows_length takes_headers message accepted available offset_used place local_after unlinks fits verdict_on
handed_out = refl

-- ## The calls

-- what a call gives on a state that is seen
module _ {B : Type 0} (call : View → Outcome View B) (t t' : Target) (lent left : B) (answer : Answer) (v : View)
    (p : Met call t lent answer t' left) (is : seen t ≡ sound v) where
  whole : ◌≡◌ {A = Outcome Seen B} (record { answer = answer; state = seen t'; buffer = left })
      (record { answer = (call v).answer; state = sound (call v).state; buffer = (call v).buffer })
  whole = p.outcome ∙ ap (λ (s : Seen). unless_unsound call s lent) is

  answers : answer ≡ (call v).answer
  answers = ap (λ (o : Outcome Seen B). o.answer) whole

  leaves : seen t' ≡ sound (call v).state
  leaves = ap (λ (o : Outcome Seen B). o.state) whole

  stores : left ≡ (call v).buffer
  stores = ap (λ (o : Outcome Seen B). o.buffer) whole

abbrev payload : List ℕ
payload = 97 ∷ 98 ∷ 99 ∷ []

module _ (new : Done (Result Unit Refusal)) (first last : Done (Result Appended Refusal)) (arrived : Done (Result RequestAnswer Refusal)) (m : List ℕ)
    (made : NewMet (record { size = 16 }) new) (p : AppendMet new.target overflow_entry first)
    (q : PutMet first.target zeros (request_of 5 0) payload arrived m) (r : AppendMet arrived.target taking_entry last) where
  new-seen : seen new.target ≡ sound empty
  unfolding empty making.new
  new-seen = made.state

  linked-seen : seen first.target ≡ sound linked
  unfolding linked
  linked-seen = leaves (λ v. early.append v overflow_entry) new.target first.target tt tt _ empty p new-seen

  waiting-seen : seen arrived.target ≡ sound waiting
  unfolding waiting
  waiting-seen = leaves (λ v. request.put v zeros (request_of 5 0) payload) first.target arrived.target zeros m _ linked q linked-seen

  stored_is : m ≡ stored
  stored_is = stores (λ v. request.put v zeros (request_of 5 0) payload) first.target arrived.target zeros m _ linked q linked-seen ∙ put-stores

  is-linked : append_answer first.answer ≡ LINKED 1
  is-linked = answers (λ v. early.append v overflow_entry) new.target first.target tt tt _ empty p new-seen ∙ linked-answer

  is-early : request_answer arrived.answer ≡ OVERFLOW 3 0 1
  is-early = answers (λ v. request.put v zeros (request_of 5 0) payload) first.target arrived.target zeros m _ linked q linked-seen ∙ put-answer

  is-taken : append_answer last.answer ≡ TAKEN
  is-taken = answers (λ v. early.append v taking_entry) arrived.target last.target tt tt _ waiting r waiting-seen ∙ taken-answer

  ran : Ran new.target zeros log last.target (set m 12 7)
  ran =
      subst (λ (n : List ℕ). Ran new.target zeros log last.target (set n 12 7)) (sym stored_is)
      (runs.next (subst (λ a. Stepped new.target zeros (line zeros (append overflow_entry) a) first.target zeros) is-linked (runs.append first p))
      (runs.next (subst (λ a. Stepped first.target zeros (line zeros (put (request_of 5 0) payload) a) arrived.target stored) is-early
      (runs.put arrived (subst (λ (n : List ℕ). PutMet first.target zeros (request_of 5 0) payload arrived n) stored_is q)))
      (runs.next (runs.host refl)
      (runs.next (subst (λ a. Stepped arrived.target touched (line touched (append taking_entry) a) last.target touched) is-taken (runs.append last r))
      runs.none))))

  pub example : Example (record { target = last.target; memory = set m 12 7 })
  unfolding stays empty
  example =
      let size = ap (λ (v : View). v.size) (seen-is new.target empty new-seen).1 in
      let c = conservation (record { size = 16 }) new zeros log last.target (set m 12 7) made (sym size) ran in
      record {
        new = new;
        made = made;
        ran = ran;
        conserved = c;
        handed = handed_out;
        stay = stays;
        handed_by = refl;
        managed = manages;
        undisturbed = undisturbed-by;
        stands = c.bytes abc stays manages undisturbed-by;
      }
