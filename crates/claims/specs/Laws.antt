-- What document 01 says of all calls on a target.
use Rattle.std.specs.Prelude.{◌≡◌, Bool, true, false, List, ℕ, ◌+◌, ◌<◌}
use Rattle.matching.specs.declared.layout.Entry.{Entry}
use Rattle.matching.specs.declared.layout.Request.{Request}
use Rattle.matching.specs.declared.request.Arrival.{Arrival}
use Rattle.state.specs.Sizes.{LAST_HANDLE}
use Rattle.state.specs.View.{View}
use Rattle.state.specs.Soundness.{sound_view}
use Rattle.state.specs.declared.layout.Settings.{Settings}
use Rattle.requests.specs.Decision.{decide}
use Rattle.requests.specs.declared.decision.Decision.TheVariants as Decision
use Rattle.portals.specs.Answers.{Answer, REFUSED, LINKED, TAKEN, is_refused}
use Rattle.portals.specs.Making as making
use Rattle.portals.specs.Request as request
use Rattle.portals.specs.EarlyMessages as early
use Rattle.portals.specs.Calls.{Call, append, unlink, search, put, get, read_event, set_counter, increment, read_counter, read_register, ready, poll, state_after, answer_to}

abbrev pub is_append : Call → Bool
is_append (append e) = true
is_append (unlink handle) = false
is_append (search e) = false
is_append (put q payload) = false
is_append (get q reply) = false
is_append read_event = false
is_append (set_counter x) = false
is_append (increment x) = false
is_append (read_counter k) = false
is_append (read_register k) = false
is_append (ready x) = false
is_append (poll ks tests) = false

-- an append's answer, and the last handle given before and after it: the next one is given, as long as there is one, or none is
pub data Handles (last : ℕ) : Answer → ℕ → Type 0 where
  linked : last < LAST_HANDLE → Handles last (LINKED (last + 1)) (last + 1)
  taken : Handles last TAKEN last
  refused : {n : ℕ} → Handles last (REFUSED n) last

pub record CallLaws : Type 0 where
  -- "Every call on a sound state leaves a sound one."
  pub sound : (v : View) (memory : List ℕ) (c : Call) → sound_view v ≡ true → sound_view (state_after v memory c) ≡ true
  -- a new target is sound, also beside a refusal
  pub made : (s : Settings) → sound_view (making.new s).state ≡ true
  -- "Memory .., fixed when a target is made."
  pub fixed : (v : View) (memory : List ℕ) (c : Call) → (state_after v memory c).size ≡ v.size
  -- a refusal "changes nothing": neither the state nor the buffer that was lent
  pub refused : (v : View) (memory : List ℕ) (c : Call) → is_refused (answer_to v memory c) ≡ true → state_after v memory c ≡ v
  pub memory_kept : (v : View) (memory : List ℕ) (q : Request) (payload : List ℕ)
      → is_refused (answer_to v memory (put q payload)) ≡ true
      → (request.put v memory q payload).buffer ≡ memory
  pub reply_kept : (v : View) (memory : List ℕ) (q : Request) (reply : List ℕ)
      → is_refused (answer_to v memory (get q reply)) ≡ true
      → (request.get v memory q reply).buffer ≡ reply
  -- rule 3, "portal above 7: DROPPED": no entry of a sound state stands there
  pub beyond : (v : View) (portal : ℕ) (a : Arrival)
      → sound_view v ≡ true
      → 7 < portal
      → decide v.entries v.headers portal a ≡ Decision.Drop
  -- "Handles count up from 1 .., never twice.": append gives the next one or none, and no other call touches the last one given
  pub next : (v : View) (e : Entry) → Handles v.last (early.append v e).answer (early.append v e).state.last
  pub last_kept : (v : View) (memory : List ℕ) (c : Call) → is_append c ≡ false → (state_after v memory c).last ≡ v.last
