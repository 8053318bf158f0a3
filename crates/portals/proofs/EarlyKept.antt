-- Append, unlink and search leave a sound state sound.
use mathlib.Core.Path.{◌≡◌}
use mathlib.Core.Bool.{Bool, true, false}
use Prim.Native.Nat.{ℕ, ◌<◌}
use native.Mathlib.Omega.{arith}
use borrow.Author.Tests.{not-true, ltb-true, eqb-true}
use lib.Dec.{eqb, ltb}
use lib.ListN.{length}
use Rattle.matching.specs.Refusals.{none_bad}
use Rattle.matching.specs.Entry.{bad_entry_argument}
use Rattle.matching.specs.declared.layout.Entry.{Entry}
use Rattle.state.specs.Lists.{any, without_first}
use Rattle.state.specs.Sizes.{SLOTS, LAST_HANDLE}
use Rattle.state.specs.View.{View, is_linked, has_handle, is_linked_as}
use Rattle.state.specs.Soundness.{names, entry_sound, holds, header_sound, keeps_slot}
use Rattle.state.specs.declared.layout.HeldEntry.{HeldEntry}
use Rattle.state.specs.declared.layout.Header.{Header}
use Rattle.state.proofs.ListLaws.{both, cond_cases, every-imply-none, Part, part-without_first, part_length, part-every, any-without_first}
use Rattle.state.proofs.SoundLaws.{Sound, header-kept, distinct-part}
use Rattle.early.specs.Walk.{Walk, walk_for, found_once}
use Rattle.early.specs.Handling.{handled}
use Rattle.early.specs.declared.handling.Handling.TheVariants as Handling
use Rattle.early.proofs.EarlyKept.{walk-for-leaves, walk-if-leaves, handled-sound}
use Rattle.portals.specs.Outcome.{refusal}
use Rattle.portals.specs.EarlyMessages.{taken_by, next_handle, append_by, append_tests, append, unlink_tests, unlink, search_tests, search}
use Rattle.portals.proofs.GuardLaws.{guard-cases}

append-by-sound : (taken : Bool) (v : View) (e : Entry) (w : Walk Header) → Sound v → Part w.left v.headers
    → length v.entries < SLOTS
    → none_bad (bad_entry_argument e v.size) ≡ true
    → Sound (append_by taken v e w).state
append-by-sound true v e w s p room good = handled-sound v e w s p Handling.Take tt
append-by-sound false v e w s p room good =
    handled-sound v e w s p (Handling.Link (next_handle v.last)) (record { above = omega arith; room = room; good = good })

pub append-sound : (v : View) (e : Entry) → Sound v → Sound (append v e).state
unfolding append
append-sound v e s =
    guard-cases (λ o. Sound o.state) (refusal v tt) (append_tests v e) _
    (λ r. s)
    (λ passed.
    let w = taken_by e v.headers in
    let space = both (ltb (length v.entries) SLOTS) (ltb v.last LAST_HANDLE) passed.1.0 in
    append-by-sound (found_once e w) v e w s (walk-if-leaves (eqb e.list 0) e v.headers)
    (ltb-true (length v.entries) SLOTS space.0)
    passed.0)

-- an entry with another handle than a header names does not hold it
other-handle : (h : Header) (handle : ℕ) (x : HeldEntry) → is_linked_as handle x ≡ true → names handle h ≡ false → holds h x ≡ false
other-handle h handle x l n =
    let named : x.handle ≡ handle = eqb-true x.handle handle (both (is_linked x) (has_handle handle x) l).1 in
    rw (named, n)

pub unlink-sound : (v : View) (handle : ℕ) → Sound v → Sound (unlink v handle).state
unfolding unlink
unlink-sound v handle s =
    guard-cases (λ o. Sound o.state) (refusal v tt) (unlink_tests v handle) _
    (λ r. s)
    (λ passed.
    let part = part-without_first (is_linked_as handle) v.entries in
    let fewer = part_length part in
    let slots = s.slots in
    record {
      size = s.size;
      slots = omega arith;
      waiting = s.waiting;
      queued = s.queued;
      handles = distinct-part part s.handles;
      entries = part-every (entry_sound v.size v.last) part s.entries;
      headers =
          every-imply-none (header_sound v.entries) (header_sound (without_first (is_linked_as handle) v.entries))
          (names handle) v.headers
          (λ h e n. header-kept v.entries (without_first (is_linked_as handle) v.entries) h
          (any-without_first (holds h) (is_linked_as handle) v.entries (λ x l. other-handle h handle x l n))
          e)
          s.headers
          (not-true (any (names handle) v.headers) passed.1.0);
      retired = part-every (keeps_slot v.headers) part s.retired;
    })

pub search-sound : (v : View) (e : Entry) → Sound v → Sound (search v e).state
unfolding search
search-sound v e s =
    guard-cases (λ o. Sound o.state) (refusal v tt) (search_tests v e) _
    (λ r. s)
    (λ passed.
    let w = walk_for e v.headers in
    let p = walk-for-leaves e v.headers in
    cond_cases (λ h. Sound (handled v e w h)) (eqb e.list 0) Handling.Look Handling.Delete
    (λ look. handled-sound v e w s p Handling.Look tt)
    (λ delete. handled-sound v e w s p Handling.Delete tt))
