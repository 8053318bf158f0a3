-- The bytes of a message stand while nothing disturbs them: the bytes clause of specs/Bytes.antt.
use mathlib.Core.Path.{◌≡◌, refl, ap, sym, ◌∙◌, subst}
use mathlib.Core.Bool.{Bool, true, false, ◌&&◌, ◌||◌, not, cond}
use mathlib.Core.List.{List, [], ◌∷◌, ◌++◌, append_cancel_left, head-eq_of_cons-eq}
use mathlib.Core.Logic.{inl}
use Rattle.std.specs.Prelude.{Option, None, Some}
use Prim.Native.Nat.{ℕ, ◌+◌, ◌≤◌}
use native.Mathlib.Omega.{arith}
use native.Mathlib.Decide.{ℕ_discrete}
use borrow.Author.Tests.{not-true, leb-true, eqb-true, eqb-false}
use lib.Dec.{eqb, leb}
use lib.ListN.{length, take, length-take}
use Rattle.matching.specs.Bits.{is_set}
use Rattle.matching.specs.Entry.{MANAGE_LOCAL}
use Rattle.matching.specs.Request.{offset_used, accepted, place, local_after, unlinks, arrival_of}
use Rattle.matching.specs.EarlyMessages.{takes_headers}
use Rattle.matching.specs.declared.layout.Entry.{Entry}
use Rattle.matching.specs.declared.request.Arrival.{Arrival}
use Rattle.matching.specs.declared.request.Kind.TheVariants as Kind
use Rattle.matching.proofs.RequestLaws.{place-start, place_end}
use Rattle.state.specs.Lists.{every, any, is_empty}
use Rattle.state.specs.View.{View, is_linked, has_handle}
use Rattle.state.specs.Soundness.{distinct, entry_sound}
use Rattle.state.specs.Counters.{increased}
use Rattle.state.specs.declared.layout.Counter.{Counter}
use Rattle.state.specs.declared.layout.HeldEntry.{HeldEntry}
use Rattle.state.specs.declared.layout.Target.{Target}
use Rattle.state.proofs.ListLaws.{both, neither, or-other, cond_cases, part-select, part-every}
use Rattle.state.proofs.SoundLaws.{sound-facts, entry-facts, region-fits, distinct-part}
use Rattle.requests.specs.Choice.{is_candidate}
use Rattle.requests.specs.Plan.{message}
use Rattle.early.specs.Walk.{uses_once}
use Rattle.early.specs.Handling.{new_entry}
use Rattle.portals.specs.Answers.{Answer, LINKED, TAKEN, refused}
use Rattle.portals.specs.Calls.{Call, append, unlink, search, put, get, read_event, set_counter, increment, read_counter, read_register, ready, poll}
use Rattle.portals.proofs.GuardLaws.{guard-cases}
use Rattle.conservation.specs.Steps.{Step, called, elsewhere, wrote, count, handle_in, says_linked, says_searched, says_priority, says_overflow, says_taken, says_done}
use Rattle.conservation.specs.Ledger.{Message, Ledger, Effect, nothing, delivery, link, taken, remove, look, delete, change, empty, first_of, otherwise, chosen, delivery_to, request_effect, call_effect, effect_of, with_local, moved, without, linked_after, message_of, arrivals_of, append_walk, effect_heard, hear}
use Rattle.conservation.specs.Runs.{Line, Stepped, Ran}
use Rattle.conservation.specs.Runs as Runs
use Rattle.conservation.specs.Answering.{tests_of, expected_of_append, AnswerRight}
use Rattle.conservation.specs.Bytes.{ledger_from, ledger_of, share_byte, apart, BytesKept, Undisturbed, Stay, manages_local, BytesStand, memory_by}
use Rattle.conservation.specs.Conserved.{All}
use Rattle.conservation.proofs.AllLaws.{all-last}
use Rattle.conservation.proofs.Relations.{Related, Leaves, Follows, At, Reaches}
use Rattle.conservation.proofs.ByteLaws.{written-there, written-elsewhere, Inside, written_apart}

-- ## What holds of a message

-- an entry with the handle of the message's entry is that entry, and its local offset is past the message's bytes
abbrev pub Own : Message → HeldEntry → Type 0
Own x y =
    y.handle ≡ x.entry.handle
    → (y.entry ≡ x.entry.entry) × (x.header.place + length x.arrived ≤ y.entry.start + y.local)

-- what holds of a message while it is undisturbed, with the ledger and the memory
pub record Stands (x : Message) (b : Ledger) (m : List ℕ) : Type 0 where
  pub bytes : BytesStand m x
  -- its bytes lie in its entry's region
  pub inside : Inside x.entry.entry x.header.place (length x.arrived)
  -- its entry, while it is linked
  pub own : All (Own x) b.linked
  pub managed : manages_local x ≡ true
  -- its entry's handle was given, so that a new entry has another
  pub given : x.entry.handle ≤ count says_linked b.heard

-- ## Elements of a list

data In {A : Type 0} (y : A) : List A → Type 0 where
  here : {l : List A} → In y (y ∷ l)
  there : {x : A} {l : List A} → In y l → In y (x ∷ l)

module _ {A : Type 0} where
  in_all : (P : A → Type 0) {y : A} {l : List A} → In y l → All P l → P y
  in_all P here h = h.0
  in_all P (there i) h = in_all P i h.1

  in-every : (p : A → Bool) {y : A} {l : List A} → In y l → every p l ≡ true → p y ≡ true
  in-every p {y} (here {l}) e = (both (p y) (every p l) e).0
  in-every p (there {x} {l} i) e = in-every p i (both (p x) (every p l) e).1

  -- what holds of each element that does not pass holds of every one where none passes
  none-all : (p : A → Bool) (P : A → Type 0) → ((x : A) → p x ≡ false → P x) → (l : List A) → any p l ≡ false → All P l
  none-all p P f [] n = tt
  none-all p P f (x ∷ l) n = let s = neither (p x) (any p l) n in (f x s.0, none-all p P f l s.1)

  -- what was found, if anything was, is an element of the list
  abbrev Among : List A → Option A → Type 0
  Among l None = Unit
  Among l (Some y) = In y l

  among-more : (x : A) (l : List A) (o : Option A) → Among l o → Among (x ∷ l) o
  among-more x l None i = tt
  among-more x l (Some y) i = there i

  first-among : (p : A → Bool) (l : List A) → Among l (first_of p l)
  first-among p [] = tt
  first-among p (x ∷ l) =
      cond_cases (Among (x ∷ l)) (p x) (Some x) (first_of p l) (λ e. here) (λ e. among-more x l (first_of p l) (first-among p l))

  else-among : (l : List A) (o other : Option A) → Among l o → Among l other → Among l (otherwise o other)
  else-among l None other i j = j
  else-among l (Some y) other i j = i

-- rule 3 chooses one of the entries
chosen-among : (l : List HeldEntry) (portal : ℕ) (a : Arrival) → Among l (chosen l portal a)
unfolding chosen
chosen-among l portal a =
    else-among l (first_of (is_candidate portal 0 a) l) (first_of (is_candidate portal 1 a) l)
    (first-among (is_candidate portal 0 a) l)
    (first-among (is_candidate portal 1 a) l)

-- of entries with distinct handles one alone has its handle
alone : {y : HeldEntry} {l : List HeldEntry} → In y l → distinct l ≡ true → All (λ (z : HeldEntry). z.handle ≡ y.handle → z ≡ y) l
alone {y} (here {l}) e =
    let s = both (not (any (has_handle y.handle) l)) (distinct l) e in
    let P : HeldEntry → Type 0 = λ z. z.handle ≡ y.handle → z ≡ y in
    (λ h. refl, none-all (has_handle y.handle) P (λ z n h. absurd (eqb-false z.handle y.handle n h)) l (not-true _ s.0))
alone {y} (there {x} {l} i) e =
    let s = both (not (any (has_handle x.handle) l)) (distinct l) e in
    let P : HeldEntry → Type 0 = λ z. z.handle ≡ x.handle → ⊥ in
    let others = none-all (has_handle x.handle) P (λ z. eqb-false z.handle x.handle) l (not-true _ s.0) in
    (λ h. absurd (in_all P i others (sym h)), alone i s.1)

-- ## The effect of a call

-- an append that is answered LINKED has the next handle
next-handle : (size : ℕ) (b : Ledger) (e : Entry) (answer : Answer) → AnswerRight size b (called (append e) answer) → says_linked answer ≡ true
    → handle_in answer ≡ count says_linked b.heard + 1
next-handle size b e answer right linked =
    guard-cases (λ a. answer ≡ a → handle_in answer ≡ count says_linked b.heard + 1) refused (tests_of size b (append e)) (expected_of_append b e)
    (λ why is. let e = ap (λ (c : Answer). says_linked c) is in cc)
    (λ passed is. by (uses_once e && not (is_empty (append_walk b e).found)) _ answer is linked)
    right
  where
    by : (taken : Bool) (n : ℕ) (a : Answer) → a ≡ cond taken TAKEN (LINKED n) → says_linked a ≡ true → handle_in a ≡ n
    by true n a is e = let f = ap (λ (c : Answer). says_linked c) is in cc
    by false n a is e = ap handle_in is

-- what holds of each kind of effect that can come of a call holds of its effect: a delivery is to a linked entry, a new entry has the next handle
module _ (size : ℕ) (b : Ledger) (answer : Answer) (P : Effect → Type 0) (no-effect : P nothing)
    (delivered : (portal : ℕ) (a : Arrival) (payload : List ℕ) (y : HeldEntry) → In y b.linked → P (delivery portal a payload y))
    (linked : (e : Entry) (handle : ℕ) → handle ≡ count says_linked b.heard + 1 → P (link e handle))
    (held : (e : Entry) → P (taken e)) (removed : (handle : ℕ) → P (remove handle))
    (looked : (e : Entry) → P (look e)) (deleted : (e : Entry) → P (delete e)) (changed : (k : ℕ) (f : Counter → Counter) → P (change k f)) where
  delivery-cases : (portal : ℕ) (a : Arrival) (payload : List ℕ) (o : Option HeldEntry) → Among b.linked o → P (delivery_to portal a payload o)
  delivery-cases portal a payload None i = no-effect
  delivery-cases portal a payload (Some y) i = delivered portal a payload y i

  request-cases : (portal : ℕ) (a : Arrival) (payload : List ℕ) → P (request_effect b.linked portal a payload answer)
  request-cases portal a payload =
      cond_cases P (says_priority answer || says_overflow answer)
      (delivery_to portal a payload (chosen b.linked portal a)) nothing
      (λ e. delivery-cases portal a payload (chosen b.linked portal a) (chosen-among b.linked portal a))
      (λ e. no-effect)

  effect-cases : (c : Call) → AnswerRight size b (called c answer) → P (call_effect b.linked c answer)
  effect-cases (append e) right =
      cond_cases P (says_linked answer) (link e (handle_in answer)) (cond (says_taken answer) (taken e) nothing)
      (λ is. linked e (handle_in answer) (next-handle size b e answer right is))
      (λ is. cond_cases P (says_taken answer) (taken e) nothing (λ k. held e) (λ k. no-effect))
  effect-cases (unlink handle) right = cond_cases P (says_done answer) (remove handle) nothing (λ k. removed handle) (λ k. no-effect)
  effect-cases (search e) right =
      cond_cases P (says_searched answer) (cond (eqb e.list 0) (look e) (delete e)) nothing
      (λ k. cond_cases P (eqb e.list 0) (look e) (delete e) (λ k. looked e) (λ k. deleted e))
      (λ k. no-effect)
  effect-cases (put q payload) right = request-cases q.portal (arrival_of q Kind.Put (length payload)) payload
  effect-cases (get q reply) right = request-cases q.portal (arrival_of q Kind.Get (length reply)) []
  effect-cases read_event right = no-effect
  effect-cases (set_counter x) right =
      cond_cases P (says_done answer) (change x.counter (λ c. record { success = x.success; failure = x.failure })) nothing
      (λ k. changed x.counter _)
      (λ k. no-effect)
  effect-cases (increment x) right =
      cond_cases P (says_done answer) (change x.counter (λ c. increased c x.success x.failure)) nothing
      (λ k. changed x.counter _)
      (λ k. no-effect)
  effect-cases (read_counter k) right = no-effect
  effect-cases (read_register k) right = no-effect
  effect-cases (ready x) right = no-effect
  effect-cases (poll ks tests) right = no-effect

-- ## The linked entries after an effect

module _ (P Q : HeldEntry → Type 0) (handle : ℕ) (others : (z : HeldEntry) → (z.handle ≡ handle → ⊥) → P z → Q z) where
  all_without : (l : List HeldEntry) → All P l → All Q (without handle l)
  all_without [] h = tt
  all_without (z ∷ l) h =
      cond_cases (All Q) (has_handle handle z) (without handle l) (z ∷ without handle l)
      (λ e. all_without l h.1)
      (λ e. (others z (eqb-false z.handle handle e) h.0, all_without l h.1))

  all_moved : (local : ℕ) → ((z : HeldEntry) → z.handle ≡ handle → P z → Q (with_local z local)) → (l : List HeldEntry) → All P l
      → All Q (moved handle local l)
  all_moved local one [] h = tt
  all_moved local one (z ∷ l) h = (
    cond_cases Q (has_handle handle z) (with_local z local) z
        (λ e. one z (eqb-true z.handle handle e) h.0)
        (λ e. others z (eqb-false z.handle handle e) h.0),
    all_moved local one l h.1,
  )

-- a delivery: what holds of the entry with its new offset, and of the others, holds of those that are linked then
all-delivered : (P Q : HeldEntry → Type 0) (portal : ℕ) (a : Arrival) (payload : List ℕ) (y : HeldEntry)
    → ((z : HeldEntry) → (z.handle ≡ y.handle → ⊥) → P z → Q z)
    → ((z : HeldEntry) → z.handle ≡ y.handle → P z → Q (with_local z (local_after y.entry y.local a)))
    → (l : List HeldEntry)
    → All P l
    → All Q (linked_after l (delivery portal a payload y))
all-delivered P Q portal a payload y others one l h =
    cond_cases (All Q) (unlinks y.entry y.local a) (without y.handle l) (moved y.handle (local_after y.entry y.local a) l)
    (λ e. all_without P Q y.handle others l h)
    (λ e. all_moved P Q y.handle others (local_after y.entry y.local a) one l h)

-- the count of answers of a word does not fall
count-grows : (p : Answer → Bool) (l r : List Answer) → count p l ≤ count p (l ++ r)
count-grows p [] r = omega arith
count-grows p (x ∷ l) r = let n = count-grows p l r in omega arith

-- ## A delivery

module _ (y : HeldEntry) (a : Arrival) where
  -- with MANAGE_LOCAL its bytes begin at the local offset
  managed-place : is_set y.entry.options MANAGE_LOCAL ≡ true → y.local ≤ y.entry.length
      → place y.entry y.local a ≡ y.entry.start + y.local
  unfolding place offset_used
  managed-place k h = rw k (omega arith)

  -- and this grows by their number
  managed-local : is_set y.entry.options MANAGE_LOCAL ≡ true → local_after y.entry y.local a ≡ y.local + accepted y.entry y.local a
  unfolding local_after
  managed-local k = rw k

  -- the bytes of a payload that arrive
  abbrev sent : List ℕ → List ℕ
  sent payload = take (accepted y.entry y.local a) payload

  sent-length : (payload : List ℕ) → length (sent payload) ≤ accepted y.entry y.local a
  sent-length payload = simp length-take (omega arith)

  -- they lie in the entry's region
  sent-inside : (payload : List ℕ) → Inside y.entry (place y.entry y.local a) (length (sent payload))
  sent-inside payload =
      let n = sent-length payload in
      let e = place_end y.entry y.local a in
      record { low = place-start y.entry y.local a; high = omega arith }

  -- and end at its new local offset, or before it
  sent-past : (payload : List ℕ) → is_set y.entry.options MANAGE_LOCAL ≡ true → y.local ≤ y.entry.length
      → place y.entry y.local a + length (sent payload) ≤ y.entry.start + local_after y.entry y.local a
  sent-past payload k h = let n = sent-length payload in rw (managed-place k h, managed-local k) (omega arith)

-- what is known of a linked entry, with the memory
record Fitting (b : Ledger) (m : List ℕ) (y : HeldEntry) : Type 0 where
  region : y.entry.start + y.entry.length ≤ length m
  local : y.local ≤ y.entry.length
  given : y.handle ≤ count says_linked b.heard

module _ (b : Ledger) (v : View) (m : List ℕ) (r : Related b v m) where
  -- the linked entries are sound, and their handles distinct
  linked-sound : every (entry_sound v.size v.last) b.linked ≡ true
  linked-sound =
      rw (← r.linked) (part-every (entry_sound v.size v.last) (part-select is_linked v.entries) (sound-facts v r.is_sound).entries)

  linked-distinct : distinct b.linked ≡ true
  linked-distinct = rw (← r.linked) (distinct-part (part-select is_linked v.entries) (sound-facts v r.is_sound).handles)

  fitting : {y : HeldEntry} → In y b.linked → Fitting b m y
  fitting {y} i =
      let f = entry-facts v.size v.last y (in-every (entry_sound v.size v.last) i linked-sound) in
      record {
        region = rw r.memory (region-fits y.entry v.size f.good);
        local = leb-true y.local y.entry.length (both (leb y.local y.entry.length) _ f.local).0;
        given = rw (← r.last) f.most;
      }

  -- the bytes that arrive in one lie in the memory
  sent-fits : {y : HeldEntry} → In y b.linked → (a : Arrival) (payload : List ℕ)
      → place y.entry y.local a + length (sent y a payload) ≤ length m
  sent-fits {y} i a payload =
      let end = (fitting i).region in
      let high = (sent-inside y a payload).high in
      omega arith

-- ## It stands as it arrives

module _ (b : Ledger) (v : View) (m : List ℕ) (r : Related b v m) (portal : ℕ) (a : Arrival) (payload : List ℕ) (y : HeldEntry)
    (i : In y b.linked) where
  -- the message of a delivery to an entry that manages its offset
  stands-delivered : (answers : List Answer) → manages_local (message_of portal a payload y) ≡ true
      → Stands (message_of portal a payload y) (effect_heard b (delivery portal a payload y) answers) (memory_by m (delivery portal a payload y))
  unfolding message
  stands-delivered answers k =
      let f = fitting b v m r i in
      let n : y.handle ≤ count says_linked b.heard = f.given in
      let c : count says_linked b.heard ≤ count says_linked (b.heard ++ answers) = count-grows says_linked b.heard answers in
      record {
        bytes = written-there m (place y.entry y.local a) (sent y a payload) (sent-fits b v m r i a payload);
        inside = sent-inside y a payload;
        own =
            all-delivered (λ z. z.handle ≡ y.handle → z ≡ y) (Own (message_of portal a payload y)) portal a payload y
            (λ z other p h. absurd (other h))
            (λ z same p h. let e = ap (λ (w : HeldEntry). w.entry) (p same) in (e, rw e (sent-past y a payload k f.local)))
            b.linked
            (alone i (linked-distinct b v m r));
        managed = k;
        given = omega arith;
      }

module _ (x : Message) (b : Ledger) (v : View) (m : List ℕ) (r : Related b v m) (k : manages_local x ≡ true) where
  -- the effect of a step with which it arrives
  abbrev Arrives : List Answer → Effect → Type 0
  Arrives answers d = arrivals_of d ≡ x ∷ [] → Stands x (effect_heard b d answers) (memory_by m d)

  arrives-delivered : (answers : List Answer) (portal : ℕ) (a : Arrival) (payload : List ℕ) (y : HeldEntry) → In y b.linked
      → Arrives answers (delivery portal a payload y)
  arrives-delivered answers portal a payload y i = by (takes_headers y.entry)
    where
      d : Effect
      d = delivery portal a payload y

      by : (takes : Bool) → cond takes (message_of portal a payload y ∷ []) [] ≡ x ∷ [] → Stands x (effect_heard b d answers) (memory_by m d)
      by true e =
          let same : message_of portal a payload y ≡ x = head-eq_of_cons-eq e in
          subst (λ (z : Message). Stands z (effect_heard b d answers) (memory_by m d)) same
          (stands-delivered b v m r portal a payload y i answers (ap manages_local same ∙ k))
      by false e = cc

  arrives : (size : ℕ) (answer : Answer) (c : Call) → AnswerRight size b (called c answer) → Arrives (answer ∷ []) (call_effect b.linked c answer)
  arrives size answer =
      effect-cases size b answer (Arrives (answer ∷ []))
      (λ e. cc)
      (arrives-delivered (answer ∷ []))
      (λ f handle n e. cc)
      (λ f e. cc)
      (λ handle e. cc)
      (λ f e. cc)
      (λ f e. cc)
      (λ k f e. cc)

-- it stands as it arrives
stands-arrive : (x : Message) (b : Ledger) (v : View) (m m' : List ℕ) (v' : View) (l : Line) → Related b v m → Follows b m l v' m'
    → (hear b l.step).arrivals ≡ b.arrivals ++ (x ∷ [])
    → manages_local x ≡ true
    → Stands x (hear b l.step) m'
stands-arrive x b v m m' v' l r f e k =
    by l.step f.right.answer f.memory (append_cancel_left b.arrivals (arrivals_of (effect_of b.linked l.step)) (x ∷ []) e)
  where
    by : (s : Step) → AnswerRight (length l.memory) b s → Leaves b m s m' → arrivals_of (effect_of b.linked s) ≡ x ∷ [] → Stands x (hear b s) m'
    by (called c answer) right leaves e =
        subst (Stands x (hear b (called c answer))) (sym leaves.0) (arrives x b v m r k (length l.memory) answer c right e)
    by (elsewhere n answer) right leaves e = cc
    by (wrote before after) right leaves e = cc

-- ## It stands after each step that does not disturb it

module _ (x : Message) (b : Ledger) (v : View) (m : List ℕ) (r : Related b v m) (s : Stands x b m) where
  -- the effect of a step leaves the message's bytes, and what holds of its entry
  abbrev Kept : Effect → Type 0
  Kept d = BytesStand (memory_by m d) x × All (Own x) (linked_after b.linked d)

  module _ (portal : ℕ) (a : Arrival) (payload : List ℕ) (y : HeldEntry) (i : In y b.linked) where
    module _ (e : apart x b ≡ true) (n : y.handle ≡ x.entry.handle → ⊥) where
      -- another entry shares no byte with the message's
      others-share : share_byte y.entry x.entry.entry ≡ false
      others-share =
          not-true (share_byte y.entry x.entry.entry)
          (or-other (has_handle x.entry.handle y) (not (share_byte y.entry x.entry.entry))
          (λ same. n (eqb-true y.handle x.entry.handle same))
          (in-every (λ z. has_handle x.entry.handle z || not (share_byte z.entry x.entry.entry)) i e))

      -- a delivery to it writes elsewhere
      other-bytes : BytesStand (memory_by m (delivery portal a payload y)) x
      other-bytes =
          written_apart m (place y.entry y.local a) (sent y a payload) y.entry x.entry.entry x.header.place (length x.arrived)
          (sent-fits b v m r i a payload)
          (sent-inside y a payload)
          s.inside
          others-share
          ∙ s.bytes

    module _ (h : y.handle ≡ x.entry.handle) where
      its_own : (y.entry ≡ x.entry.entry) × (x.header.place + length x.arrived ≤ y.entry.start + y.local)
      its_own = in_all (Own x) i s.own h

      its-managed : is_set y.entry.options MANAGE_LOCAL ≡ true
      its-managed = ap (λ (e : Entry). is_set e.options MANAGE_LOCAL) its_own.0 ∙ s.managed

      -- a delivery to its own entry writes past it
      own-bytes : BytesStand (memory_by m (delivery portal a payload y)) x
      own-bytes =
          let at = managed-place y a its-managed (fitting b v m r i).local in
          let past = its_own.1 in
          written-elsewhere m (place y.entry y.local a) (sent y a payload) (sent-fits b v m r i a payload)
          x.header.place (length x.arrived) (inl (omega arith))
          ∙ s.bytes

      -- and moves the offset further
      own-offset : (z : HeldEntry) → z.entry ≡ x.entry.entry → Own x (with_local z (local_after y.entry y.local a))
      own-offset z e k =
          let start : z.entry.start ≡ y.entry.start = ap (λ (f : Entry). f.start) (e ∙ sym its_own.0) in
          let past = its_own.1 in
          (e, rw (managed-local y a its-managed, start) (omega arith))

    kept-delivered : apart x b ≡ true → Kept (delivery portal a payload y)
    kept-delivered e = (
      by (ℕ_discrete y.handle x.entry.handle),
      all-delivered (Own x) (Own x) portal a payload y (λ z n p. p) (λ z same p h. own-offset (sym same ∙ h) z (p h).0 h) b.linked s.own,
    )
      where
        by : Dec (y.handle ≡ x.entry.handle) → BytesStand (memory_by m (delivery portal a payload y)) x
        by (yes h) = own-bytes h
        by (no n) = other-bytes e n

  kept : apart x b ≡ true → (size : ℕ) (answer : Answer) (c : Call) → AnswerRight size b (called c answer) → Kept (call_effect b.linked c answer)
  kept e size answer =
      effect-cases size b answer Kept
      (s.bytes, s.own)
      (λ portal a payload y i. kept-delivered portal a payload y i e)
      (λ f handle n. (s.bytes, all-last (Own x) b.linked (new_entry f handle) s.own (λ h. let g = s.given in absurd (omega arith))))
      (λ f. (s.bytes, s.own))
      (λ handle. (s.bytes, all_without (Own x) (Own x) handle (λ z n p. p) b.linked s.own))
      (λ f. (s.bytes, s.own))
      (λ f. (s.bytes, s.own))
      (λ k f. (s.bytes, s.own))

-- it stands after each step that does not disturb it
stands_on : (x : Message) (b : Ledger) (v v' : View) (m m' : List ℕ) (l : Line) → Related b v m → Follows b m l v' m'
    → apart x b ≡ true
    → BytesKept x l.step
    → Stands x b m
    → Stands x (hear b l.step) m'
stands_on x b v v' m m' l r f e kept-bytes s = by l.step f.right.answer f.memory kept-bytes
  where
    stood : (d : Effect) (answers : List Answer) → BytesStand m' x → All (Own x) (linked_after b.linked d) → Stands x (effect_heard b d answers) m'
    stood d answers bytes own =
        let n = s.given in
        let more = count-grows says_linked b.heard answers in
        record { bytes = bytes; inside = s.inside; own = own; managed = s.managed; given = omega arith }

    by : (t : Step) → AnswerRight (length l.memory) b t → Leaves b m t m' → BytesKept x t → Stands x (hear b t) m'
    by (called c answer) right leaves kept-bytes =
        let k = kept x b v m r s e (length l.memory) answer c right in
        stood (call_effect b.linked c answer) (answer ∷ []) (subst (λ (n : List ℕ). BytesStand n x) (sym leaves.0) k.0) k.1
    by (elsewhere n answer) right leaves kept-bytes =
        stood nothing (answer ∷ []) (subst (λ (n : List ℕ). BytesStand n x) (sym leaves.0) s.bytes) s.own
    by (wrote before after) right leaves kept-bytes =
        stood nothing []
        (subst (λ (n : List ℕ). BytesStand n x) (sym leaves.0) (kept-bytes ∙ subst (λ (n : List ℕ). BytesStand n x) (sym leaves.1.0) s.bytes))
        s.own

-- ## The clause

-- a line has the memory as its step begins
pub began : {t t' : Target} {m m' : List ℕ} {l : Line} → Stepped t m l t' m' → l.memory ≡ m
began (Runs.append r p) = refl
began (Runs.unlink r p) = refl
began (Runs.search r p) = refl
began (Runs.put r p) = refl
began (Runs.put_elsewhere lent q payload r p e) = refl
began (Runs.get r p) = refl
began (Runs.get_elsewhere lent q r p e) = refl
began (Runs.read_event r p) = refl
began (Runs.set_counter r p) = refl
began (Runs.increment r p) = refl
began (Runs.read_counter r p) = refl
began (Runs.read_register r p) = refl
began (Runs.ready r p) = refl
began (Runs.poll r p) = refl
began (Runs.host e) = refl

module _ (step : (b : Ledger) (t t' : Target) (m m' : List ℕ) (l : Line) → At b t m → Stepped t m l t' m' → Reaches b m l t' m') where
  -- where a step leads
  after : {b : Ledger} {t' : Target} {m m' : List ℕ} {l : Line} → Reaches b m l t' m' → At (hear b l.step) t' m'
  after n = record { view = n.view; is = n.is; related = n.follows.related }

  module _ (x : Message) (compared : Line) (later : List Line) where
    -- it stands, and does so until it is handed out
    stands-until : (between : List Line) {b : Ledger} {t t' : Target} {m m' : List ℕ} → At b t m → Ran t m (between ++ (compared ∷ later)) t' m'
        → Undisturbed x b between
        → Stands x b m
        → BytesStand compared.memory x
    stands-until [] h (Runs.next p rest) u s = rw (began p) s.bytes
    stands-until (l ∷ ls) {b} {t} {m} h (Runs.next {t'} {m'} p rest) u s =
        let n = step b t t' m m' l h p in
        stands-until ls (after n) rest u.2 (stands_on x b h.view n.view m m' l h.related n.follows u.0 u.1 s)

    module _ (arrival : Line) (between : List Line) (k : manages_local x ≡ true) where
      -- from any ledger on: it arrives, and stands until it is handed out
      stands_from : (earlier : List Line) {b : Ledger} {t t' : Target} {m m' : List ℕ} → At b t m
          → Ran t m (earlier ++ (arrival ∷ between ++ (compared ∷ later))) t' m'
          → (ledger_from b (earlier ++ (arrival ∷ []))).arrivals ≡ (ledger_from b earlier).arrivals ++ (x ∷ [])
          → Undisturbed x (ledger_from b (earlier ++ (arrival ∷ []))) between
          → BytesStand compared.memory x
      stands_from [] {b} {t} {m} h (Runs.next {t'} {m'} p rest) e u =
          let n = step b t t' m m' arrival h p in
          stands-until between (after n) rest u (stands-arrive x b h.view m m' n.view arrival h.related n.follows e k)
      stands_from (l ∷ ls) {b} {t} {m} h (Runs.next {t'} {m'} p rest) e u = stands_from ls (after (step b t t' m m' l h p)) rest e u

  -- the clause, over a list of steps
  pub bytes-stand : (t t' : Target) (start m : List ℕ) (log : List Line) → At empty t start → Ran t start log t' m
      → (x : Message) (s : Stay log x)
      → manages_local x ≡ true
      → Undisturbed x (ledger_of (s.earlier ++ (s.arrival ∷ []))) s.between
      → BytesStand s.compared.memory x
  bytes-stand t t' start m log h ran x s k u =
      stands_from x s.compared s.later s.arrival s.between k s.earlier h
      (subst (λ (ls : List Line). Ran t start ls t' m) s.split ran)
      s.arrives
      u
