-- Document 01, "Early messages": append, unlink and search. The walk, and what is done with the headers that it finds, are in `early`.
use Rattle.std.specs.Prelude.{◌≡◌, Bool, true, false, ◌&&◌, not, cond, List, [], ◌∷◌, ℕ, ◌+◌, ◌<◌, eqb, ltb, length, Result, Ok, Err}
use Rattle.matching.specs.Refusals.{first_bad}
use Rattle.matching.specs.Entry.{bad_entry_argument}
use Rattle.matching.specs.declared.layout.Entry.{Entry}
use Rattle.matching.specs.declared.refusals.Refusal.{Refusal}
use Rattle.matching.specs.declared.refusals.BadArgument.{BadArgument}
use Rattle.state.specs.Lists.{any, remove_at, without_first}
use Rattle.state.specs.Sizes.{SLOTS, LAST_HANDLE}
use Rattle.state.specs.View.{View, entries_of, with_entries, is_linked_as}
use Rattle.state.specs.Soundness.{names}
use Rattle.state.specs.declared.layout.Header.{Header}
use Rattle.state.specs.declared.layout.Target.{Target}
use Rattle.early.specs.Walk.{Walk, walk_for, walk_if, found_once}
use Rattle.early.specs.Handling.{handled}
use Rattle.early.specs.declared.handling.Handling.{Handling}
use Rattle.portals.specs.Refusals.{Condition, good_arguments}
use Rattle.portals.specs.Answers.{LINKED, TAKEN, DONE, SEARCHED}
use Rattle.portals.specs.Outcome.{Outcome, guarded}
use Rattle.portals.specs.Admission.{Admits}
use Rattle.portals.specs.declared.answers.Appended.{Appended}
use Rattle.portals.specs.declared.answers.Appended.TheVariants as Append

-- ## Append

-- "An append to the priority list first walks the portal's waiting headers". "Appending to overflow just links."
abbrev pub taken_by : Entry → List Header → Walk Header
taken_by e headers = walk_if (eqb e.list 0) e headers

-- "Handles count up from 1 .., never twice."
abbrev pub next_handle : ℕ → ℕ
next_handle last = last + 1

-- "USE_ONCE with a fit: the first is taken, nothing is linked, the answer is TAKEN, no handle is used and no link or unlink event
-- comes (reading).": decision 11. "Otherwise all that fit are taken and the entry is linked ..: LINKED with handle."
-- By whether USE_ONCE has a fit.
abbrev pub append_by : Bool → View → Entry → Walk Header → Outcome View Unit
append_by true v e w = record { answer = TAKEN; state = handled v e w Handling.Take; buffer = tt }
append_by false v e w =
    record { answer = LINKED (next_handle v.last); state = handled v e w (Handling.Link (next_handle v.last)); buffer = tt }

abbrev pub appended : View → Entry → Walk Header → Outcome View Unit
appended v e w = append_by (found_once e w) v e w

-- NO_SPACE: "append: 64 slots taken at entry, or no handle left": decision 1
abbrev pub has_space : View → Bool
has_space v = ltb (length v.entries) SLOTS && ltb v.last LAST_HANDLE

-- in this order
abbrev pub append_tests : View → Entry → List Condition
append_tests v e =
    good_arguments (bad_entry_argument e v.size)
    ∷ record { passed = has_space v; refusal = Refusal.NoSpace }
    ∷ []

unfoldable pub append : View → Entry → Outcome View Unit
append v e = guarded v tt (append_tests v e) (appended v e (taken_by e v.headers))

-- ## Unlink

-- "any handle not linked is ARG_INVALID"
abbrev pub bad_handle_argument : View → ℕ → Result Unit BadArgument
bad_handle_argument v handle =
    first_bad (record { passed = any (is_linked_as handle) v.entries; argument = BadArgument.Handle } ∷ [])

-- IN_USE: "unlink: messages wait in this overflow entry": only an overflow entry is named by a sound state's headers
abbrev pub unlink_tests : View → ℕ → List Condition
unlink_tests v handle =
    good_arguments (bad_handle_argument v handle)
    ∷ record { passed = not (any (names handle) v.headers); refusal = Refusal.InUse }
    ∷ []

-- "Unlink removes a linked entry, without event": the first with this handle, and a sound state has no other
abbrev pub unlinked : View → ℕ → Outcome View Unit
unlinked v handle =
    record { answer = DONE; state = with_entries v (without_first (is_linked_as handle) v.entries); buffer = tt }

unfoldable pub unlink : View → ℕ → Outcome View Unit
unlink v handle = guarded v tt (unlink_tests v handle) (unlinked v handle)

-- ## Search

-- "a mode (0 look, 1 delete) in place of the list"
abbrev pub search_handling : ℕ → Handling
search_handling mode = cond (eqb mode 0) Handling.Look Handling.Delete

-- ".. and answers how many it found"
abbrev pub searched : View → Entry → Walk Header → Outcome View Unit
searched v e w =
    record { answer = SEARCHED (length w.found); state = handled v e w (search_handling e.list); buffer = tt }

-- append's tests of the entry, with the mode in the list's place; never NO_SPACE: decision 1
abbrev pub search_tests : View → Entry → List Condition
search_tests v e = good_arguments (bad_entry_argument e v.size) ∷ []

unfoldable pub search : View → Entry → Outcome View Unit
search v e = guarded v tt (search_tests v e) (searched v e (walk_for e v.headers))

-- ## What the calls are made of. No promise of a call cites these.

-- what an append says, by whether USE_ONCE has a fit
abbrev pub taken_or_linked : Bool → ℕ → Appended
taken_or_linked taken last = cond taken Append.Taken (Append.Linked (next_handle last))

-- what an append does with the headers found, by what it says
abbrev pub append_handling : Appended → Handling
append_handling (Append.Linked handle) = Handling.Link handle
append_handling Append.Taken = Handling.Take

-- an unlink that passed its tests has an entry to unlink, the first that is linked with the handle
pub record Unlinks (t : Target) (handle at : ℕ) : Type 0 where
  pub admits : Admits (λ v. unlink_tests v handle) t (Ok tt)
  pub inside : at < t.entries.count
  pub without : remove_at at (entries_of t.entries) ≡ without_first (is_linked_as handle) (entries_of t.entries)

-- an unlink is refused as its tests say, or goes on with the place of that entry
abbrev pub UnlinkTested : Target → ℕ → Result ℕ Refusal → Type 0
UnlinkTested t handle (Err r) = Admits (λ v. unlink_tests v handle) t (Err r)
UnlinkTested t handle (Ok at) = Unlinks t handle at
