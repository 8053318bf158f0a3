-- Demand 3: one clause for each kind of step, then every list of steps from a new target.
use mathlib.Core.Path.{◌≡◌, refl, ap, sym, ◌∙◌, subst}
use mathlib.Core.Bool.{Bool, true, false, cond}
use mathlib.Core.List.{List, [], ◌∷◌, ◌++◌, map}
use Rattle.std.specs.Prelude.{Result}
use Prim.Native.Nat.{ℕ, zero-le}
use borrow.Author.Tests.{le-ltb}
use lib.Dec.{eqb}
use lib.ListN.{length}
use Rattle.matching.specs.declared.refusals.Refusal.{Refusal}
use Rattle.state.specs.Lists.{every, select}
use Rattle.state.specs.View.{View, view_of, is_linked, empty_view}
use Rattle.state.specs.Soundness.{Seen, sound, seen, seen_if, is_sound, sound_view, header_sound}
use Rattle.state.specs.Registers.{register_at}
use Rattle.state.specs.declared.layout.Settings.{Settings}
use Rattle.state.specs.declared.layout.Target.{Target}
use Rattle.state.proofs.ListLaws.{both}
use Rattle.state.proofs.SoundLaws.{sound-facts}
use Rattle.portals.specs.Refusals.{good_arguments}
use Rattle.portals.specs.Answers.{Answer, MADE, refused}
use Rattle.portals.specs.Outcome.{Outcome, refusal, unless_unsound, read_unless_unsound}
use Rattle.portals.specs.Making as making
use Rattle.portals.specs.Request.{put, get}
use Rattle.portals.specs.Promises.{Met, ReadMet, NewMet}
use Rattle.portals.specs.Calls.{Call, state_after, answer_to}
use Rattle.portals.specs.Calls as calls
use Rattle.portals.specs.declared.answers.Done.{Done}
use Rattle.portals.proofs.GuardLaws.{guard-cases}
use Rattle.claims.proofs.CallLaws.{call_laws}
use Rattle.conservation.specs.Steps.{called, events_read}
use Rattle.conservation.specs.Ledger.{Ledger, empty, hear, message_at, header_at}
use Rattle.conservation.specs.Runs.{Line, line, line_elsewhere, Stepped, Ran}
use Rattle.conservation.specs.Runs as runs
use Rattle.conservation.specs.Answering.{AnswerRight}
use Rattle.conservation.specs.Bytes.{ledger_from, Memories}
use Rattle.conservation.specs.Conserved.{All, WaitsIn, Right, Throughout, at_portal, is_overflow, Agrees, Conservation}
use Rattle.conservation.proofs.Relations.{Home, Follows, At, Reaches}
use Rattle.conservation.proofs.StepLaws.{Kept, kept-follows}
use Rattle.conservation.proofs.CounterSteps as counters
use Rattle.conservation.proofs.EarlySteps as early
use Rattle.conservation.proofs.RequestSteps as requests
use Rattle.conservation.proofs.SlotLaws.{waits-in-own}
use Rattle.conservation.proofs.StayLaws.{began, bytes-stand}

-- ## A step

module _ (b : Ledger) (t : Target) (m : List ℕ) (h : At b t m) where
  abbrev v : View
  v = h.view

  -- a call that may change the state. `after`: the memory after it, by the lent buffer as it is left
  by_call : {B : Type 0} (c : Call) (call : View → Outcome View B) (after : B → List ℕ) (lent left : B) (answer : Answer) (t' : Target)
      → Met call t lent answer t' left
      → Follows b m (line m c (call v).answer) (call v).state (after (call v).buffer)
      → Reaches b m (line m c answer) t' (after left)
  by_call {B} c call after lent left answer t' p f =
      let e = p.outcome ∙ ap (λ (s : Seen). unless_unsound call s lent) h.is in
      record {
        view = (call v).state;
        is = ap (λ (o : Outcome Seen B). o.state) e;
        follows = subst (λ (o : Outcome Seen B). Follows b m (line m c o.answer) (call v).state (after o.buffer)) (sym e) f;
      }

  -- a call that only reads
  by_read : (c : Call) (call : View → Answer) (answer : Answer) → ReadMet call t answer
      → Follows b m (line m c (call v)) v m
      → Reaches b m (line m c answer) t m
  by_read c call answer p f =
      let e = p.outcome ∙ ap (λ (s : Seen). read_unless_unsound call s) h.is in
      record { view = v; is = h.is; follows = subst (λ a. Follows b m (line m c a) v m) (sym e) f }

  -- what is kept follows, where the memory stays
  stays : (c : Call) → AnswerRight (length m) b (called c (answer_to v m c)) → Kept b m c (answer_to v m c) (state_after v m c) m
      → Follows b m (line m c (answer_to v m c)) (state_after v m c) m
  stays c answer k = kept-follows b v m h.related c m answer k

  -- lent a memory of another length, and refused for it
  by-another : (call : View → Outcome View (List ℕ)) (lent given left : List ℕ) (answer : Answer) (t' : Target) → Met call t given answer t' left
      → call v ≡ refusal v given Refusal.BadMemory
      → ((answer : Answer) → answer ≡ refused Refusal.BadMemory → Follows b m (line_elsewhere m lent answer) v m)
      → Reaches b m (line_elsewhere m lent answer) t' m
  by-another call lent given left answer t' p bad f =
      let e = p.outcome ∙ ap (λ (s : Seen). unless_unsound call s given) h.is in
      record {
        view = v;
        is = ap (λ (o : Outcome Seen (List ℕ)). o.state) e ∙ ap (λ (o : Outcome View (List ℕ)). sound o.state) bad;
        follows = f answer (ap (λ (o : Outcome Seen (List ℕ)). o.answer) e ∙ ap (λ (o : Outcome View (List ℕ)). o.answer) bad);
      }

-- one clause for each kind of step
step : (b : Ledger) (t t' : Target) (m m' : List ℕ) (l : Line) → At b t m → Stepped t m l t' m' → Reaches b m l t' m'
step b t t' m m' l h (runs.append {e = e} r p) =
    by_call b t m h (calls.append e) _ (λ _. m) tt tt _ t' p
    (stays b t m h (calls.append e) (early.append-answered b h.view m h.related e) (early.append-kept b h.view m h.related e))
step b t t' m m' l h (runs.unlink {handle = handle} r p) =
    by_call b t m h (calls.unlink handle) _ (λ _. m) tt tt _ t' p
    (stays b t m h (calls.unlink handle) (early.unlink-answered b h.view m h.related handle) (early.unlink-kept b h.view m h.related handle))
step b t t' m m' l h (runs.search {e = e} r p) =
    by_call b t m h (calls.search e) _ (λ _. m) tt tt _ t' p
    (stays b t m h (calls.search e) (early.search-answered b h.view m h.related e) (early.search-kept b h.view m h.related e))
step b t t' m m' l h (runs.put {q = q} {payload = payload} r p) =
    by_call b t m h (calls.put q payload) (λ v. put v m q payload) (λ memory. memory) m m' _ t' p
    (kept-follows b h.view m h.related (calls.put q payload) _ (requests.put-answered b h.view m h.related q payload)
    (requests.put-kept b h.view m h.related q payload))
step b t t' m m' l h (runs.put_elsewhere lent {lent'} q payload r p e) =
    by-another b t m h (λ v. put v lent q payload) lent lent lent' _ t' p
    (requests.put-another b h.view m h.related q payload lent e)
    (requests.elsewhere-follows b h.view m h.related q lent e)
step b t t' m m' l h (runs.get {q = q} {reply = reply} {reply' = reply'} r p) =
    by_call b t m h (calls.get q reply) (λ v. get v m q reply) (λ _. m) reply reply' _ t' p
    (stays b t m h (calls.get q reply) (requests.get-answered b h.view m h.related q reply) (requests.get-kept b h.view m h.related q reply))
step b t t' m m' l h (runs.get_elsewhere lent q {reply} {reply'} r p e) =
    by-another b t m h (λ v. get v lent q reply) lent reply reply' _ t' p
    (requests.get-another b h.view m h.related q reply lent e)
    (requests.elsewhere-follows b h.view m h.related q lent e)
step b t t' m m' l h (runs.read_event r p) =
    by_call b t m h calls.read_event _ (λ _. m) tt tt _ t' p
    (stays b t m h calls.read_event (counters.read-event-answered b h.view m h.related) (counters.read-event-kept b h.view m h.related))
step b t t' m m' l h (runs.set_counter {x = x} r p) =
    by_call b t m h (calls.set_counter x) _ (λ _. m) tt tt _ t' p
    (stays b t m h (calls.set_counter x) (counters.set-counter-answered b h.view m h.related x) (counters.set-counter-kept b h.view m h.related x))
step b t t' m m' l h (runs.increment {x = x} r p) =
    by_call b t m h (calls.increment x) _ (λ _. m) tt tt _ t' p
    (stays b t m h (calls.increment x) (counters.increment-answered b h.view m h.related x) (counters.increment-kept b h.view m h.related x))
step b t t' m m' l h (runs.read_counter {k = k} r p) =
    by_read b t m h (calls.read_counter k) _ _ p
    (stays b t m h (calls.read_counter k) (counters.read-counter-answered b h.view m h.related k) (counters.read-counter-kept b h.view m h.related k))
step b t t' m m' l h (runs.read_register {k = k} r p) =
    by_read b t m h (calls.read_register k) _ _ p
    (stays b t m h (calls.read_register k) (counters.read-register-answered b h.view m h.related k) (counters.read-register-kept b h.view m h.related k))
step b t t' m m' l h (runs.ready {x = x} r p) =
    by_read b t m h (calls.ready x) _ _ p
    (stays b t m h (calls.ready x) (counters.ready-answered b h.view m h.related x) (counters.ready-kept b h.view m h.related x))
step b t t' m m' l h (runs.poll {ks = ks} {tests = tests} r p) =
    by_read b t m h (calls.poll ks tests) _ _ p
    (stays b t m h (calls.poll ks tests) (counters.poll-answered b h.view m h.related ks tests) (counters.poll-kept b h.view m h.related ks tests))
step b t t' m m' l h (runs.host e) =
    record { view = h.view; is = h.is; follows = counters.host-follows b h.view m h.related m' e }

-- ## A list of steps

record Ends (b : Ledger) (start : List ℕ) (log : List Line) (t : Target) (m : List ℕ) : Type 0 where
  at : At (ledger_from b log) t m
  each : Throughout Right b log
  memories : Memories b start log m

runs_on : (b : Ledger) (t t' : Target) (m m' : List ℕ) (log : List Line) → At b t m → Ran t m log t' m' → Ends b m log t' m'
runs_on b t t' m m' log h runs.none = record { at = h; each = tt; memories = refl }
runs_on b t t' m m' log h (runs.next {t' = next} {m' = left} {l = l} {ls = rest} s ran) =
    let f = step b t next m left l h s in
    let e = runs_on (hear b l.step) next t' left m' rest (record { view = f.view; is = f.is; related = f.follows.related }) ran in
    let left_is = f.follows.memory.0 in
    record {
      at = e.at;
      each = (f.follows.right, e.each);
      memories = (
        began s,
        f.follows.memory.1,
        subst (λ (n : List ℕ). Memories (hear b l.step) n rest m') left_is e.memories,
      );
    }

-- ## From a new target

pub seen-is : (t : Target) (v : View) → seen t ≡ sound v → (is_sound t ≡ true) × (view_of t ≡ v)
unfolding seen
seen-is t v e = go (is_sound t) refl e
  where
    go : (x : Bool) → is_sound t ≡ x → seen_if x t ≡ sound v → (is_sound t ≡ true) × (view_of t ≡ v)
    go true s h = (s, cc)
    go false s h = cc

zero-register : (x y : Bool) → ◌≡◌ {A = ℕ} (cond x 0 (cond y 0 0)) 0
zero-register true y = refl
zero-register false true = refl
zero-register false false = refl

-- a new target, whatever its size, is empty, and so is the ledger
begins : (size : ℕ) (new : Target) (m : List ℕ) → seen new ≡ sound (empty_view size) → sound_view (empty_view size) ≡ true → length m ≡ size → At empty new m
begins size new m is good fits = record {
  view = empty_view size;
  is = is;
  related = record {
    is_sound = good;
    memory = fits;
    linked = refl;
    headers = refl;
    homes = tt;
    numbers = record { below = refl; ascending = refl; sum = refl; once = λ n. rw (le-ltb n 0 zero-le) };
    events = record { events = refl; mark = refl };
    last = refl;
    registers = λ k. zero-register (eqb k 0) (eqb k 1);
    counters = refl;
  };
}

-- also beside a refusal
made-empty : (s : Settings) → (making.new s).state ≡ empty_view (making.new s).state.size
unfolding making.new
made-empty s =
    guard-cases (λ (o : Outcome View Unit). o.state ≡ empty_view o.state.size) making.not_made (good_arguments (making.bad_setting s) ∷ [])
    (record { answer = MADE; state = empty_view s.size; buffer = tt })
    (λ why. refl)
    (λ passed. refl)

starts : (s : Settings) (new : Done (Result Unit Refusal)) (m : List ℕ) → NewMet s new → length m ≡ (view_of new.target).size → At empty new.target m
starts s new m p fits =
    let size = (making.new s).state.size in
    let is = p.state ∙ ap sound (made-empty s) in
    begins size new.target m is (subst (λ v. sound_view v ≡ true) (made-empty s) (call_laws.made s))
    (fits ∙ ap (λ (v : View). v.size) (seen-is new.target (empty_view size) is).1)

-- ## The claim

module _ (b : Ledger) (t : Target) (m : List ℕ) (h : At b t m) where
  -- every message waits in its own entry
  homes : All (λ n. WaitsIn h.view.entries (message_at b.arrivals n)) b.waiting
  homes =
      let s = sound-facts h.view h.related.is_sound in
      go b.waiting h.related.homes (subst (λ hs. every (header_sound h.view.entries) hs ≡ true) h.related.headers s.headers)
    where
      go : (ns : List ℕ) → All (λ n. Home h.view.entries (message_at b.arrivals n)) ns
          → every (header_sound h.view.entries) (map (header_at b.arrivals) ns) ≡ true
          → All (λ n. WaitsIn h.view.entries (message_at b.arrivals n)) ns
      go [] p e = tt
      go (n ∷ ns) p e =
          let f = both (header_sound h.view.entries (header_at b.arrivals n)) (every (header_sound h.view.entries) (map (header_at b.arrivals) ns)) e in
          (waits-in-own h.view.entries (message_at b.arrivals n) (sound-facts h.view h.related.is_sound).handles f.0 p.0, go ns p.1 f.1)

  agrees : Agrees b t m
  agrees =
      let i = seen-is t h.view h.is in
      let r = h.related in
      let headers = ap (λ (v : View). v.headers) i.1 ∙ r.headers in
      let events = ap (λ (v : View). events_read b.heard ++ v.queue.events) i.1 ∙ r.events.events in
      record {
        sound = i.0;
        size = r.memory ∙ sym (ap (λ (v : View). v.size) i.1);
        waiting = λ portal. ap (select (at_portal portal)) headers;
        headers = headers;
        homes = subst (λ (v : View). All (λ n. WaitsIn v.entries (message_at b.arrivals n)) b.waiting) (sym i.1) homes;
        linked = ap (λ (v : View). select is_linked v.entries) i.1 ∙ r.linked;
        last = ap (λ (v : View). v.last) i.1 ∙ r.last;
        events = events;
        mark = ap (λ (v : View). v.queue.lost) i.1 ∙ r.events.mark;
        overflow = ap (select is_overflow) events;
        registers = λ k _. ap (λ (v : View). register_at v.registers k) i.1 ∙ r.registers k;
        counters = ap (λ (v : View). v.counters) i.1 ∙ r.counters;
      }

pub conservation : Conservation
conservation s new start log t m made fits ran =
    let h = starts s new start made fits in
    let e = runs_on empty new.target t start m log h ran in
    record {
      ledger = record {
        accepted = e.at.related.numbers.sum;
        once = e.at.related.numbers.once;
        ascending = e.at.related.numbers.ascending;
      };
      target = agrees (ledger_from empty log) t m e.at;
      each = e.each;
      memories = e.memories;
      bytes = bytes-stand step new.target t start m log h ran;
    }
