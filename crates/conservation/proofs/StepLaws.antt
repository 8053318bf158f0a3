-- What a step has to show, part by part, and what follows from it.
use mathlib.Core.Path.{◌≡◌, refl, ap, sym, ◌∙◌, subst}
use mathlib.Core.Bool.{Bool, true, false, cond}
use mathlib.Core.List.{List, [], ◌∷◌, ◌++◌, append-nil}
use Prim.Native.Nat.{ℕ, ◌+◌, ◌%◌, ◌^◌}
use native.Mathlib.Nat.{add-zero}
use lib.Dec.{eqb}
use lib.ListN.{length}
use Rattle.matching.specs.declared.refusals.Refusal.{Refusal}
use Rattle.state.specs.Lists.{any, select}
use Rattle.state.specs.View.{View, EventQueue, is_linked}
use Rattle.state.specs.Registers.{register_at}
use Rattle.state.proofs.ListLaws.{cond_cases, neither}
use Rattle.portals.specs.Refusals.{Condition, unless_refused}
use Rattle.portals.specs.Answers.{Answer, refused}
use Rattle.portals.specs.Outcome.{Outcome, refusal, guarded}
use Rattle.portals.specs.Calls.{Call, state_after, answer_to}
use Rattle.portals.specs.Calls as calls
use Rattle.portals.proofs.GuardLaws.{guard-cases, unless-map}
use Rattle.claims.proofs.CallLaws.{call_laws}
use Rattle.conservation.specs.Steps.{called, count, event_in, events_read, says_linked, says_dropped, says_perm, says_op}
use Rattle.conservation.specs.Ledger.{counters_after, Ledger, Effect, Fates, nothing, call_effect, linked_after, arrivals_of, waiting_after, hand_outs, issued_by, add_all, effect_heard}
use Rattle.conservation.specs.Runs.{line}
use Rattle.conservation.specs.Answering.{AnswerRight, counted_in, register_of}
use Rattle.conservation.specs.Bytes.{memory_by}
use Rattle.conservation.proofs.Relations.{SameEvents, Related, Follows}
use Rattle.conservation.proofs.NumberLaws.{none_found}
use Rattle.conservation.proofs.EventLaws.{reads_more, count-more, overflow-shown}
use Rattle.conservation.proofs.MessageLaws.{Messages, messages-parted}

-- ## One answer more

-- an answer that no register counts
abbrev pub Unregistered : Answer → Type 0
Unregistered a = any (λ p. p a) (says_dropped ∷ says_perm ∷ says_op ∷ []) ≡ false

-- and that reads no event and gives no handle
pub record Plain (a : Answer) : Type 0 where
  pub event : event_in a ≡ []
  pub handle : says_linked a ≡ false
  pub unregistered : Unregistered a

pub same_count : (p : Answer → Bool) (heard : List Answer) (a : Answer) → p a ≡ false → count p (heard ++ (a ∷ [])) ≡ count p heard
same_count p heard a e = count-more p heard a ∙ rw e (add-zero (count p heard))

pub one_more : (p : Answer → Bool) (heard : List Answer) (a : Answer) → p a ≡ true → count p (heard ++ (a ∷ [])) ≡ count p heard + 1
one_more p heard a e = count-more p heard a ∙ rw e refl

same_reads : (heard : List Answer) (a : Answer) → event_in a ≡ [] → events_read (heard ++ (a ∷ [])) ≡ events_read heard
same_reads heard a e = reads_more heard a ∙ rw e (append-nil (events_read heard))

pub same-register : (heard : List Answer) (a : Answer) → Unregistered a → (k : ℕ) → register_of (heard ++ (a ∷ [])) k ≡ register_of heard k
same-register heard a u k =
    let dropped = neither (says_dropped a) (any (λ p. p a) (says_perm ∷ says_op ∷ [])) u in
    let permission = neither (says_perm a) (any (λ p. p a) (says_op ∷ [])) dropped.1 in
    let operation = neither (says_op a) false permission.1 in
    ap (λ n. n % 2 ^ 64) (same_count (counted_in k) heard a
    (cond_cases (λ p. p a ≡ false) (eqb k 0) says_dropped (cond (eqb k 1) says_perm says_op)
    (λ e. dropped.0)
    (λ e. cond_cases (λ p. p a ≡ false) (eqb k 1) says_perm says_op (λ f. permission.0) (λ f. operation.0))))

-- ## A step

-- what a call with its answer leaves, against what the ledger makes of them as an effect
pub record Kept (b : Ledger) (m : List ℕ) (c : Call) (a : Answer) (v' : View) (m' : List ℕ) : Type 0 where
  pub d : Effect
  pub effect : call_effect b.linked c a ≡ d
  pub linked : select is_linked v'.entries ≡ linked_after b.linked d
  pub messages : Messages (b.arrivals ++ arrivals_of d) (waiting_after b d) (b.handed ++ hand_outs b d) v'.entries v'.headers
  pub events : SameEvents (events_read (b.heard ++ (a ∷ []))) v'.queue (add_all (length (events_read b.heard)) b.events (issued_by b d))
  pub last : v'.last ≡ count says_linked (b.heard ++ (a ∷ []))
  pub registers : (k : ℕ) → register_at v'.registers k ≡ register_of (b.heard ++ (a ∷ [])) k
  pub counters : v'.counters ≡ counters_after b d
  pub memory : m' ≡ memory_by m d
  pub size : length m' ≡ length m

module _ (b : Ledger) (v : View) (m : List ℕ) (r : Related b v m) where
  -- the state is sound and the memory has its size, by the laws of all calls
  pub kept-follows : (c : Call) (m' : List ℕ) → AnswerRight (length m) b (called c (answer_to v m c))
      → Kept b m c (answer_to v m c) (state_after v m c) m'
      → Follows b m (line m c (answer_to v m c)) (state_after v m c) m'
  kept-follows c m' answer k = record {
    related = subst (λ e. Related (effect_heard b e (answer_to v m c ∷ [])) (state_after v m c) m') (sym k.effect) (record {
      is_sound = call_laws.sound v m c r.is_sound;
      memory = k.size ∙ r.memory ∙ sym (call_laws.fixed v m c);
      linked = k.linked;
      headers = k.messages.headers;
      homes = k.messages.homes;
      numbers = k.messages.numbers;
      events = k.events;
      last = k.last;
      registers = k.registers;
      counters = k.counters;
    });
    right = record { answer = answer; overflow = overflow-shown b (call_effect b.linked c (answer_to v m c)) };
    memory = (k.memory ∙ ap (memory_by m) (sym k.effect), tt);
  }

  pub messages : Messages b.arrivals b.waiting b.handed v.entries v.headers
  messages = record { headers = r.headers; homes = r.homes; numbers = r.numbers }

  -- nothing is handed out, nothing arrives
  pub same-messages : Messages (b.arrivals ++ []) b.waiting (b.handed ++ []) v.entries v.headers
  same-messages = messages-parted messages v.entries v.headers (none_found b.waiting) r.homes r.headers

  -- no event is read, and some are issued
  pub same_read : (a : Answer) (q : EventQueue) (s : Fates) → event_in a ≡ [] → SameEvents (events_read b.heard) q s
      → SameEvents (events_read (b.heard ++ (a ∷ []))) q s
  same_read a q s e t = subst (λ reads. SameEvents reads q s) (sym (same_reads b.heard a e)) t

  -- a plain answer of a call that only reads, or is refused
  pub plain-kept : (c : Call) (a : Answer) → Plain a → call_effect b.linked c a ≡ nothing → Kept b m c a v m
  plain-kept c a p d = record {
    d = nothing;
    effect = d;
    linked = r.linked;
    messages = same-messages;
    events = same_read a v.queue b.events p.event r.events;
    last = r.last ∙ sym (same_count says_linked b.heard a p.handle);
    registers = λ k. r.registers k ∙ sym (same-register b.heard a p.unregistered k);
    counters = r.counters;
    memory = refl;
    size = refl;
  }

  refused-effect : (c : Call) (why : Refusal) → call_effect b.linked c (refused why) ≡ nothing
  refused-effect (calls.append e) why = refl
  refused-effect (calls.unlink handle) why = refl
  refused-effect (calls.search e) why = refl
  refused-effect (calls.put q payload) why = refl
  refused-effect (calls.get q reply) why = refl
  refused-effect calls.read_event why = refl
  refused-effect (calls.set_counter x) why = refl
  refused-effect (calls.increment x) why = refl
  refused-effect (calls.read_counter k) why = refl
  refused-effect (calls.read_register k) why = refl
  refused-effect (calls.ready x) why = refl
  refused-effect (calls.poll ks tests) why = refl

  -- a refusal
  pub refused-kept : (c : Call) (why : Refusal) → Kept b m c (refused why) v m
  refused-kept c why =
      plain-kept c (refused why) (record { event = refl; handle = refl; unregistered = refl }) (refused-effect c why)

  -- a call behind its tests: refused, or what it does. `left`: the memory after it, by the lent buffer as it is left
  pub guarded-kept : {B : Type 0} (c : Call) (left : B → List ℕ) (lent : B) (tests : List Condition) (does : Outcome View B) → left lent ≡ m
      → Kept b m c does.answer does.state (left does.buffer)
      → Kept b m c (guarded v lent tests does).answer (guarded v lent tests does).state (left (guarded v lent tests does).buffer)
  guarded-kept {B} c left lent tests does untouched k =
      guard-cases (λ (o : Outcome View B). Kept b m c o.answer o.state (left o.buffer)) (refusal v lent) tests does
      (λ why. subst (Kept b m c (refused why) v) (sym untouched) (refused-kept c why))
      (λ passed. k)

-- its answer is a refusal's, or what it answers
pub guarded-answers : {B : Type 0} (v : View) (lent : B) (tests : List Condition) (does : Outcome View B)
    → (guarded v lent tests does).answer ≡ unless_refused refused tests does.answer
guarded-answers {B} v lent tests does = unless-map (λ (o : Outcome View B). o.answer) (refusal v lent) tests does
