-- The linked entries of the ledger are the linked ones of the target, whatever a call does to the entries.
use mathlib.Core.Path.{◌≡◌, refl, ap, sym, ◌∙◌, subst}
use mathlib.Core.Bool.{Bool, true, false, ◌&&◌, not, cond, true≢false}
use mathlib.Core.List.{List, [], ◌∷◌, ◌++◌}
use Rattle.std.specs.Prelude.{Option, None, Some}
use Prim.Native.Nat.{ℕ, zero, suc, ◌+◌, ◌≤◌, ◌<◌}
use native.Mathlib.Omega.{arith}
use borrow.Author.Tests.{not-true, eqb-true, eqb-false, eq-eqb, ne_eqb}
use lib.Dec.{eqb}
use lib.ListN.{length, set, get_or}
use Rattle.matching.specs.Request.{local_after, unlinks, matches}
use Rattle.matching.specs.EarlyMessages.{takes_headers}
use Rattle.matching.specs.declared.layout.Entry.{Entry}
use Rattle.matching.specs.declared.request.Arrival.{Arrival}
use Rattle.state.specs.Lists.{every, any, select, without_first, first_from, remove_at}
use Rattle.state.specs.View.{is_linked, has_handle, is_linked_as, zero_entry, entry_at}
use Rattle.state.specs.Soundness.{distinct, entry_sound, waits_in, holds, bytes_inside, header_sound, keeps_slot}
use Rattle.state.specs.declared.layout.HeldEntry.{HeldEntry}
use Rattle.state.specs.declared.layout.Header.{Header}
use Rattle.state.proofs.ListLaws.{both, neither, or_left, or-other, cond_cases, cond_map, Part, part-remove_at, part-select, part_none, any_at, Found}
use Rattle.state.proofs.SoundLaws.{entry-facts}
use Rattle.requests.specs.Choice.{is_in, is_candidate, choose}
use Rattle.requests.specs.Choice as choices
use Rattle.requests.specs.Plan.{message, plan, entry_after, is_freed}
use Rattle.requests.specs.Plan as requests
use Rattle.requests.specs.declared.choice.Choice.{Choice}
use Rattle.early.specs.Handling.{new_entry}
use Rattle.conservation.specs.Ledger.{Message, first_of, otherwise, chosen, with_local, moved, without, linked_after, delivery, message_of}
use Rattle.conservation.specs.Conserved.{All}
use Rattle.conservation.proofs.AllLaws.{all-part, all-last, all_set, all-at}
use Rattle.conservation.proofs.Relations.{Home}

-- ## A test that implies another

module _ {A : Type 0} (p q : A → Bool) (implies : (x : A) → p x ≡ true → q x ≡ true) where
  -- an element that does not pass is not the first, selected or not
  not_first : (chosen : Bool) (x : A) (l : List A) → p x ≡ false → first_of p (cond chosen (x ∷ l) l) ≡ first_of p l
  not_first true x l e = rw e
  not_first false x l e = refl

  -- what holds where none is found, and of every place where one is with the element there, holds of the first place and of the first
  -- of those selected; the list begins at place `from`
  first-selected : (d : A) (P : Option ℕ → Option A → Type 0) (from : ℕ) (l : List A)
      → P None None
      → ((at k : ℕ) → at ≡ from + k → Found p l d k → P (Some at) (Some (get_or l k d)))
      → P (first_from p from l) (first_of p (select q l))
  first-selected d P from [] without at = without
  first-selected d P from (x ∷ l) without at =
      by (p x) refl
      (first-selected d P (suc from) l without
      (λ n k h f. at n (suc k) (omega arith) (record { inside = let i : k < length l = f.inside in omega arith; passes = f.passes })))
    where
      by : (passes : Bool) → p x ≡ passes → P (first_from p (suc from) l) (first_of p (select q l))
          → P (first_from p from (x ∷ l)) (first_of p (select q (x ∷ l)))
      by true e rest = rw (implies x e, e) (at from 0 (omega arith) (record { inside = omega arith; passes = e }))
      by false e rest = rw (e, not_first (q x) x (select q l) e) rest

  -- it selects the same of those that the other selects
  select-selected : (l : List A) → select p (select q l) ≡ select p l
  select-selected [] = refl
  select-selected (x ∷ l) = by (p x) (q x) refl refl (select-selected l)
    where
      by : (passes chosen : Bool) → p x ≡ passes → q x ≡ chosen → select p (select q l) ≡ select p l
          → select p (select q (x ∷ l)) ≡ select p (x ∷ l)
      by true true e f rest = rw (f, e) (ap (λ (r : List A). x ∷ r) rest)
      by true false e f rest = let i = implies x e in cc
      by false true e f rest = rw (f, e) rest
      by false false e f rest = rw (f, e) rest

-- ## The choice

-- an entry that may be chosen is linked
candidate-linked : (portal list : ℕ) (a : Arrival) (x : HeldEntry) → is_candidate portal list a x ≡ true → is_linked x ≡ true
candidate-linked portal list a x e =
    let s = both (is_in portal list x) (matches x.entry x.local a) e in
    let t = both (is_linked x && eqb x.entry.portal portal) (eqb x.entry.list list) s.0 in
    (both (is_linked x) (eqb x.entry.portal portal) t.0).0

or-none : {A : Type 0} (o : Option A) → otherwise o None ≡ o
or-none None = refl
or-none (Some x) = refl

module _ (entries : List HeldEntry) (portal : ℕ) (a : Arrival) where
  -- what the target's choice, a place, and the ledger's choice, an entry, have in common
  pub data ChosenAs : Choice → Option HeldEntry → Type 0 where
    priority : (k : ℕ) → k < length entries → is_linked (entry_at entries k) ≡ true → ChosenAs (Choice.Priority k) (Some (entry_at entries k))
    overflow : (k : ℕ) → k < length entries → is_linked (entry_at entries k) ≡ true → ChosenAs (Choice.Overflow k) (Some (entry_at entries k))
    nothing : ChosenAs Choice.Nothing None

  -- in one list: where it has no candidate, it is up to another choice
  in_list : (list : ℕ) (choice : ℕ → Choice) (other : Choice) (it : Option HeldEntry)
      → ((k : ℕ) → k < length entries → is_linked (entry_at entries k) ≡ true → ChosenAs (choice k) (Some (entry_at entries k)))
      → ChosenAs other it
      → ChosenAs (choices.or_else choice (first_from (is_candidate portal list a) 0 entries) other)
      (otherwise (first_of (is_candidate portal list a) (select is_linked entries)) it)
  in_list list choice other it at rest =
      first-selected (is_candidate portal list a) is_linked (candidate-linked portal list a) zero_entry
      (λ o c. ChosenAs (choices.or_else choice o other) (otherwise c it)) 0 entries rest
      (λ n k e f. subst (λ (m : ℕ). ChosenAs (choice m) (Some (entry_at entries k))) (let same : k ≡ n = omega arith in same)
      (at k f.inside (candidate-linked portal list a (entry_at entries k) f.passes)))

  pub chosen-as : ChosenAs (choose entries portal a) (chosen (select is_linked entries) portal a)
  unfolding choose chosen
  chosen-as =
      in_list 0 Choice.Priority _ _ priority
      (subst (ChosenAs _) (or-none (first_of (is_candidate portal 1 a) (select is_linked entries)))
      (in_list 1 Choice.Overflow Choice.Nothing None overflow nothing))

-- ## The linked entries

-- an entry that keeps no slot was not linked
pub kept-linked : (headers : List Header) (entries : List HeldEntry) → select is_linked (select (keeps_slot headers) entries) ≡ select is_linked entries
kept-linked headers entries =
    select-selected is_linked (keeps_slot headers) (λ x e. or_left (is_linked x) (any (waits_in x) headers) e) entries

-- a new entry is the last of them
pub linked-last : (entries : List HeldEntry) (e : Entry) (handle : ℕ)
    → select is_linked (entries ++ (new_entry e handle ∷ [])) ≡ select is_linked entries ++ (new_entry e handle ∷ [])
linked-last [] e handle = refl
linked-last (x ∷ l) e handle =
    rw (linked-last l e handle) (sym (cond_map (λ r. r ++ (new_entry e handle ∷ [])) (is_linked x) (x ∷ select is_linked l) (select is_linked l)))

-- a change of the entry of a handle alone: entries of other handles stay as they are
record Only (handle : ℕ) (f : List HeldEntry → List HeldEntry) : Type 0 where
  pub ends : f [] ≡ []
  pub passes : (x : HeldEntry) (l : List HeldEntry) → has_handle handle x ≡ false → f (x ∷ l) ≡ x ∷ f l

only-without : (handle : ℕ) → Only handle (without handle)
only-without handle = record { ends = refl; passes = λ x l e. rw e }

only-moved : (handle local : ℕ) → Only handle (moved handle local)
only-moved handle local = record { ends = refl; passes = λ x l e. rw e }

module _ (handle : ℕ) (f : List HeldEntry → List HeldEntry) (only : Only handle f) where
  -- where no entry has the handle all stay
  all_stay : (l : List HeldEntry) → any (has_handle handle) l ≡ false → f l ≡ l
  all_stay [] n = only.ends
  all_stay (x ∷ l) n =
      let s = neither (has_handle handle x) (any (has_handle handle) l) n in
      only.passes x l s.0 ∙ ap (λ (r : List HeldEntry). x ∷ r) (all_stay l s.1)

  -- also among the linked ones
  linked-stay : (l : List HeldEntry) → any (has_handle handle) l ≡ false → f (select is_linked l) ≡ select is_linked l
  linked-stay l n = all_stay (select is_linked l) (part_none (has_handle handle) (part-select is_linked l) n)

  -- an entry before those that change, linked or not
  stays-before : (x : HeldEntry) (l m : List HeldEntry) → has_handle handle x ≡ false → select is_linked l ≡ f (select is_linked m)
      → select is_linked (x ∷ l) ≡ f (select is_linked (x ∷ m))
  stays-before x l m other e = by (is_linked x)
    where
      by : (linked : Bool) → cond linked (x ∷ select is_linked l) (select is_linked l) ≡ f (cond linked (x ∷ select is_linked m) (select is_linked m))
      by true = ap (λ (r : List HeldEntry). x ∷ r) e ∙ sym (only.passes x (select is_linked m) other)
      by false = e

-- no entry after the first has its handle
first_alone : (x : HeldEntry) (l : List HeldEntry) → distinct (x ∷ l) ≡ true → (any (has_handle x.handle) l ≡ false) × (distinct l ≡ true)
first_alone x l d =
    let s = both (not (any (has_handle x.handle) l)) (distinct l) d in
    (not-true (any (has_handle x.handle) l) s.0, s.1)

-- unlink removes the linked entry of its handle
pub unlinked-linked : (entries : List HeldEntry) (handle : ℕ) → distinct entries ≡ true
    → select is_linked (without_first (is_linked_as handle) entries) ≡ without handle (select is_linked entries)
unlinked-linked [] handle d = refl
unlinked-linked (x ∷ l) handle d =
    let alone = first_alone x l d in
    by (is_linked x) (has_handle handle x) refl refl alone.0 (unlinked-linked l handle alone.1)
  where
    by : (linked same : Bool) → is_linked x ≡ linked → has_handle handle x ≡ same → any (has_handle x.handle) l ≡ false
        → select is_linked (without_first (is_linked_as handle) l) ≡ without handle (select is_linked l)
        → select is_linked (without_first (is_linked_as handle) (x ∷ l)) ≡ without handle (select is_linked (x ∷ l))
    by true true e f n rest =
        let own : x.handle ≡ handle = eqb-true x.handle handle f in
        rw (e, f) (sym (linked-stay handle (without handle) (only-without handle) l (subst (λ (h : ℕ). any (has_handle h) l ≡ false) own n)))
    by true false e f n rest = rw (e, f, e) (ap (λ (r : List HeldEntry). x ∷ r) rest)
    by false same e f n rest = rw (e, e) rest

-- ## A delivery

-- a handle that no entry of a list has is not that of the entry at a place
not-its : (handle : ℕ) (l : List HeldEntry) (k : ℕ) → any (has_handle handle) l ≡ false → k < length l → handle ≡ (entry_at l k).handle → ⊥
not-its handle l k n h e =
    true≢false (sym (any_at (has_handle handle) l k zero_entry h (eq-eqb (entry_at l k).handle handle (sym e))) ∙ n)

-- what is done at the place of a linked entry does to the linked ones what `f` does to the entry of that handle. `at`: the list after
-- it is done at a place
module _ (it : HeldEntry) (f : List HeldEntry → List HeldEntry) (only : Only it.handle f)
    (at : ℕ → List HeldEntry → List HeldEntry)
    (here : (l : List HeldEntry) → f (select is_linked l) ≡ select is_linked l → select is_linked (at 0 (it ∷ l)) ≡ f (it ∷ select is_linked l))
    (later : (k : ℕ) (x : HeldEntry) (l : List HeldEntry) → at (suc k) (x ∷ l) ≡ x ∷ at k l) where
  at_place : (entries : List HeldEntry) (k : ℕ) → distinct entries ≡ true → k < length entries → is_linked it ≡ true → entry_at entries k ≡ it
      → select is_linked (at k entries) ≡ f (select is_linked entries)
  at_place [] k d h e is = absurd (omega arith)
  at_place (x ∷ l) zero d h e is =
      let n : any (has_handle it.handle) l ≡ false = subst (λ (y : HeldEntry). any (has_handle y.handle) l ≡ false) is (first_alone x l d).0 in
      rw (is, e) (here l (linked-stay it.handle f only l n))
  at_place (x ∷ l) (suc k) d h e is =
      let s = first_alone x l d in
      rw (later k x l)
      (stays-before it.handle f only x (at k l) l
      (ne_eqb x.handle it.handle (λ p. not-its x.handle l k s.0 (omega arith) (p ∙ ap (λ (y : HeldEntry). y.handle) (sym is))))
      (at_place l k s.1 (omega arith) e is))

-- the linked entry at place k
module _ (entries : List HeldEntry) (k : ℕ) (d : distinct entries ≡ true) (inside : k < length entries)
    (linked : is_linked (entry_at entries k) ≡ true) where
  abbrev it : HeldEntry
  it = entry_at entries k

  own : has_handle it.handle it ≡ true
  own = eq-eqb it.handle it.handle refl

  -- it goes
  removed-linked : select is_linked (remove_at k entries) ≡ without it.handle (select is_linked entries)
  removed-linked =
      at_place it (without it.handle) (only-without it.handle) remove_at (λ l stay. rw own (sym stay)) (λ k x l. refl)
      entries k d inside linked refl

  -- it is retired
  retired-linked : (y : HeldEntry) → is_linked y ≡ false → select is_linked (set entries k y) ≡ without it.handle (select is_linked entries)
  retired-linked y e =
      at_place it (without it.handle) (only-without it.handle) (λ k l. set l k y) (λ l stay. rw (own, e) (sym stay)) (λ k x l. refl)
      entries k d inside linked refl

  -- its local offset changes
  moved-linked : (local : ℕ) → select is_linked (set entries k (with_local it local)) ≡ moved it.handle local (select is_linked entries)
  moved-linked local =
      at_place it (moved it.handle local) (only-moved it.handle local) (λ k l. set l k (with_local it local))
      (λ l stay. rw (own, linked) (ap (λ (r : List HeldEntry). with_local it local ∷ r) (sym stay))) (λ k x l. refl)
      entries k d inside linked refl

  -- the entry with another local offset, linked or retired
  abbrev after : ℕ → ℕ → HeldEntry
  after local retired = record { entry = it.entry; handle = it.handle; local = local; retired = retired }

  -- by what was found: it unlinks, it takes headers
  delivered-by : (local : ℕ) (unlinked takes : Bool)
      → select is_linked (cond (unlinked && not takes) (remove_at k entries) (set entries k (after local (cond unlinked 1 0))))
      ≡ cond unlinked (without it.handle (select is_linked entries)) (moved it.handle local (select is_linked entries))
  delivered-by local true false = removed-linked
  delivered-by local true true = retired-linked (after local 1) refl
  delivered-by local false takes =
      ap (λ (r : ℕ). select is_linked (set entries k (after local r))) (sym (eqb-true it.retired 0 linked)) ∙ moved-linked local

-- the entry of a delivery unlinks, or its local offset grows
pub delivered-linked : (entries : List HeldEntry) (portal : ℕ) (a : Arrival) (payload : List ℕ) (k : ℕ)
    → distinct entries ≡ true
    → k < length entries
    → is_linked (entry_at entries k) ≡ true
    → select is_linked (requests.entries_after entries (plan entries portal a k))
    ≡ linked_after (select is_linked entries) (delivery portal a payload (entry_at entries k))
delivered-linked entries portal a payload k d inside linked =
    let x = entry_at entries k in
    delivered-by entries k d inside linked (local_after x.entry x.local a) (unlinks x.entry x.local a) (takes_headers x.entry)

-- ## Homes

-- an entry of this handle has this entry
abbrev Same : ℕ → Entry → HeldEntry → Type 0
Same handle e y = y.handle ≡ handle → y.entry ≡ e

-- entries go
pub home-part : {l entries : List HeldEntry} {x : Message} → Part l entries → Home entries x → Home l x
home-part {l} {entries} {x} s h = record { named = h.named; same = all-part (Same x.entry.handle x.entry.entry) s h.same }

-- an entry with a higher handle joins
pub home-last : (entries : List HeldEntry) (x : Message) (e : Entry) (handle : ℕ) → x.entry.handle < handle → Home entries x
    → Home (entries ++ (new_entry e handle ∷ [])) x
home-last entries x e handle above h = record {
  named = h.named;
  same = all-last (Same x.entry.handle x.entry.entry) entries (new_entry e handle) h.same (λ p. absurd (omega arith));
}

-- a request is delivered to an entry
pub home-delivered : (entries : List HeldEntry) (portal : ℕ) (a : Arrival) (k : ℕ) (x : Message) → k < length entries → Home entries x
    → Home (requests.entries_after entries (plan entries portal a k)) x
home-delivered entries portal a k x inside h =
    let p = plan entries portal a k in
    let P = Same x.entry.handle x.entry.entry in
    cond_cases (λ l. Home l x) (is_freed p) (remove_at k entries) (set entries k (entry_after p))
    (λ e. home-part (part-remove_at k entries) h)
    (λ e. record { named = h.named; same = all_set P entries k (entry_after p) h.same (all-at P entries k zero_entry inside h.same) })

-- an entry is the only one of its handle
only-own : (entries : List HeldEntry) (k : ℕ) → distinct entries ≡ true → k < length entries
    → All (Same (entry_at entries k).handle (entry_at entries k).entry) entries
only-own [] k d h = absurd (omega arith)
only-own (x ∷ l) zero d h = (λ p. refl, none-same l (first_alone x l d).0)
  where
    none-same : (l : List HeldEntry) → any (has_handle x.handle) l ≡ false → All (Same x.handle x.entry) l
    none-same [] n = tt
    none-same (y ∷ l) n =
        let s = neither (has_handle x.handle y) (any (has_handle x.handle) l) n in
        (λ p. absurd (eqb-false y.handle x.handle s.0 p), none-same l s.1)
only-own (x ∷ l) (suc k) d h =
    let s = first_alone x l d in
    (λ p. absurd (not-its x.handle l k s.0 (omega arith) p), only-own l k s.1 (omega arith))

-- the entry of a delivery is the home of its message
pub home-new : (entries : List HeldEntry) (portal : ℕ) (a : Arrival) (payload : List ℕ) (k : ℕ) → distinct entries ≡ true → k < length entries
    → Home (requests.entries_after entries (plan entries portal a k)) (message_of portal a payload (entry_at entries k))
unfolding message
home-new entries portal a payload k d inside =
    home-delivered entries portal a k (message_of portal a payload (entry_at entries k)) inside
    (record { named = refl; same = only-own entries k d inside })

-- a header that an entry holds has a handle that was given
held-given : (size last : ℕ) (entries : List HeldEntry) (h : Header) → every (entry_sound size last) entries ≡ true → any (holds h) entries ≡ true
    → h.handle ≤ last
held-given size last [] h s e = cc
held-given size last (x ∷ l) h s e =
    let t = both (entry_sound size last x) (every (entry_sound size last) l) s in
    by (holds h x) refl (entry-facts size last x t.0).most (held-given size last l h t.1)
  where
    by : (held : Bool) → holds h x ≡ held → x.handle ≤ last → (any (holds h) l ≡ true → h.handle ≤ last) → h.handle ≤ last
    by true f most rest =
        let c = both _ (bytes_inside x h) f in
        let b = both _ (takes_headers x.entry) c.0 in
        let own : h.handle ≡ x.handle = eqb-true h.handle x.handle (both (waits_in x h) _ b.0).0 in
        omega arith
    by false f most rest = rest (or-other (holds h x) (any (holds h) l) (λ t. true≢false (sym t ∙ f)) e)

-- the home of a waiting message has a handle that was given
pub home-given : (size last : ℕ) (entries : List HeldEntry) (x : Message) → every (entry_sound size last) entries ≡ true
    → header_sound entries x.header ≡ true
    → Home entries x
    → x.entry.handle ≤ last
home-given size last entries x s e h =
    let most : x.header.handle ≤ last = held-given size last entries x.header s (both (any (holds x.header) entries) _ e).0 in
    let named : x.header.handle ≡ x.entry.handle = h.named in
    omega arith
