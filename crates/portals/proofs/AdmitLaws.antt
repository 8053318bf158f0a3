-- When a call is admitted, and what follows from it.
use Rattle.std.specs.Prelude.{None, Some, Result, Ok, Err, is_ok, position}
use mathlib.Core.Path.{◌≡◌, refl, ap, sym, ◌∙◌}
use mathlib.Core.Bool.{Bool, true, false, not, cond, false≢true}
use mathlib.Core.List.{List, [], ◌∷◌}
use Prim.Native.Nat.{ℕ, ◌<◌}
use native.Mathlib.Omega.{arith}
use borrow.Author.Tests.{eqb-true}
use lib.Dec.{eqb}
use lib.ListN.{length}
use Rattle.matching.specs.Entry.{is_counter}
use Rattle.matching.specs.Refusals.{none_bad}
use Rattle.matching.specs.declared.refusals.Refusal.{Refusal}
use Rattle.matching.specs.declared.refusals.BadArgument.{BadArgument}
use Rattle.state.specs.Lists.{every, any}
use Rattle.state.specs.View.{View, view_of, entries_of, headers_of, is_linked_as}
use Rattle.state.specs.Soundness.{names, is_sound}
use Rattle.state.specs.declared.layout.Target.{Target}
use Rattle.state.proofs.PositionLaws.{found-none, found-at}
use Rattle.state.proofs.SlotLaws.{in_use}
use Rattle.state.proofs.SoundLaws.{good-both}
use Rattle.portals.specs.Refusals.{Condition, good_arguments, unless_refused}
use Rattle.portals.specs.Admission.{admission_if, admission, Admits}
use Rattle.portals.specs.CounterCalls.{bad_poll_argument}
use Rattle.portals.specs.EarlyMessages.{bad_handle_argument, unlink_tests, Unlinks}
use Rattle.portals.proofs.GuardLaws.{AllPassed, guard-cases}

pub not-ok : {A : Type 0} (r : Refusal) (a : A) → ◌≡◌ {A = Result A Refusal} (Err r) (Ok a) → ⊥
not-ok r a e = false≢true (ap is_ok e)

-- ## A call that makes its tests one after the other

-- the first of these tests that is not passed gives this refusal
pub data RefusedBy : List Condition → Refusal → Type 0 where
  here : {c : Condition} {cs : List Condition} → c.passed ≡ false → RefusedBy (c ∷ cs) c.refusal
  later : {c : Condition} {cs : List Condition} {r : Refusal} → c.passed ≡ true → RefusedBy cs r → RefusedBy (c ∷ cs) r

refused-by : {tests : List Condition} {r : Refusal} → RefusedBy tests r → ◌≡◌ {A = Result Unit Refusal} (unless_refused Err tests (Ok tt)) (Err r)
refused-by (here e) = rw e
refused-by (later e h) = rw e (refused-by h)

all-passed : (tests : List Condition) → AllPassed tests → ◌≡◌ {A = Result Unit Refusal} (unless_refused Err tests (Ok tt)) (Ok tt)
all-passed [] passed = refl
all-passed (c ∷ cs) passed = rw passed.0 (all-passed cs passed.1)

unless-passed : (tests : List Condition) → ◌≡◌ {A = Result Unit Refusal} (unless_refused Err tests (Ok tt)) (Ok tt) → AllPassed tests
unless-passed tests e =
    guard-cases (λ (a : Result Unit Refusal). a ≡ Ok tt → AllPassed tests) Err tests (Ok tt)
    (λ r f. absurd (not-ok r tt f))
    (λ passed f. passed)
    e

module _ (t : Target) where
  -- a state that is not sound refuses every call
  pub unsound-refuses : (tests : View → List Condition) (r : Refusal) → Admits (λ v. []) t (Err r) → Admits tests t (Err r)
  unsound-refuses tests r a = record { answer = by (is_sound t) a.answer; fits = λ e. absurd (not-ok r tt e) }
    where
      by : (sound : Bool) → Err r ≡ admission_if sound [] → Err r ≡ admission_if sound (tests (view_of t))
      by true e = absurd (not-ok r tt e)
      by false e = e

  -- more tests do not change the refusal by the first
  pub first-refuses : (c : View → Condition) (cs : View → List Condition) (r : Refusal)
      → Admits (λ v. c v ∷ []) t (Err r)
      → Admits (λ v. c v ∷ cs v) t (Err r)
  first-refuses c cs r a = record { answer = by (is_sound t) (c (view_of t)).passed a.answer; fits = λ e. absurd (not-ok r tt e) }
    where
      by : (sound passed : Bool)
          → Err r ≡ admission_if sound (record { passed = passed; refusal = (c (view_of t)).refusal } ∷ [])
          → Err r ≡ admission_if sound (record { passed = passed; refusal = (c (view_of t)).refusal } ∷ cs (view_of t))
      by true true e = absurd (not-ok r tt e)
      by true false e = e
      by false passed e = e

  -- the state that an admitted call found sound
  pub admitted-sound : (tests : View → List Condition) → Ok tt ≡ admission tests t → is_sound t ≡ true
  admitted-sound tests e = by (is_sound t) e
    where
      by : (sound : Bool) → Ok tt ≡ admission_if sound (tests (view_of t)) → sound ≡ true
      by true f = refl
      by false f = absurd (not-ok Refusal.BadState tt (sym f))

  -- and the tests that it passed
  pub admitted-passed : (tests : View → List Condition) → Ok tt ≡ admission tests t → AllPassed (tests (view_of t))
  admitted-passed tests e = by (is_sound t) e
    where
      by : (sound : Bool) → Ok tt ≡ admission_if sound (tests (view_of t)) → AllPassed (tests (view_of t))
      by true f = unless-passed (tests (view_of t)) (sym f)
      by false f = absurd (not-ok Refusal.BadState tt (sym f))

  module _ (tests some : View → List Condition) (admits : Admits some t (Ok tt)) where
    -- of a sound state, the first test that is not passed refuses
    pub test-refused : (r : Refusal) → RefusedBy (tests (view_of t)) r → Admits tests t (Err r)
    test-refused r h = record {
      answer = rw (admitted-sound some admits.answer) (sym (refused-by h));
      fits = λ e. absurd (not-ok r tt e);
    }

    -- or all are passed
    pub all-admitted : AllPassed (tests (view_of t)) → Admits tests t (Ok tt)
    all-admitted passed = record {
      answer = rw (admitted-sound some admits.answer) (sym (all-passed (tests (view_of t)) passed));
      fits = λ e. admits.fits refl;
    }

-- ## What the tests say

-- a poll that was admitted has lists of equal length
pub lists-equal : (ks tests : List ℕ) (t : Target)
    → Ok tt ≡ admission (λ v. good_arguments (bad_poll_argument ks tests) ∷ []) t
    → length ks ≡ length tests
lists-equal ks tests t e =
    let passed = (admitted-passed t (λ v. good_arguments (bad_poll_argument ks tests) ∷ []) e).0 in
    let counters = good-both (every is_counter ks) _ BadArgument.Counter passed in
    eqb-true (length ks) (length tests) (good-both (eqb (length ks) (length tests)) (Ok tt) BadArgument.ListLength counters.1).0

-- an argument that alone is tested is good if it passes
good-alone : (passed : Bool) (argument : BadArgument) → none_bad (cond passed (Ok tt) (Err argument)) ≡ passed
good-alone true argument = refl
good-alone false argument = refl

-- a handle is good if it is linked
pub handle-tested : (v : View) (handle : ℕ) → none_bad (bad_handle_argument v handle) ≡ any (is_linked_as handle) v.entries
handle-tested v handle = good-alone (any (is_linked_as handle) v.entries) BadArgument.Handle

-- ## The tests of an unlink, by the place where its handle is linked

module _ (t : Target) (handle : ℕ) (admits : Admits (λ v. []) t (Ok tt)) where
  -- it is linked nowhere
  pub unlinked-refused : position (is_linked_as handle) (entries_of t.entries) ≡ None → Admits (λ v. unlink_tests v handle) t (Err Refusal.ArgInvalid)
  unlinked-refused e =
      test-refused t (λ v. unlink_tests v handle) (λ v. []) admits Refusal.ArgInvalid
      (here (handle-tested (view_of t) handle ∙ found-none (is_linked_as handle) (entries_of t.entries) e))

  module _ (at : ℕ) (linked : position (is_linked_as handle) (entries_of t.entries) ≡ Some at) where
    handle-good : none_bad (bad_handle_argument (view_of t) handle) ≡ true
    handle-good = handle-tested (view_of t) handle ∙ (found-at (is_linked_as handle) (entries_of t.entries) at linked).0

    -- a message waits in its entry
    pub used-refused : any (names handle) (headers_of t.unexpected) ≡ true → Admits (λ v. unlink_tests v handle) t (Err Refusal.InUse)
    used-refused e =
        test-refused t (λ v. unlink_tests v handle) (λ v. []) admits Refusal.InUse (later handle-good (here (ap not e)))

    -- none does
    pub unlinks-at : any (names handle) (headers_of t.unexpected) ≡ false → Unlinks t handle at
    unlinks-at e =
        let first = (found-at (is_linked_as handle) (entries_of t.entries) at linked).1 in
        let n : length (entries_of t.entries) ≡ t.entries.count = in_use (admits.fits refl).entries in
        let inside : at < length (entries_of t.entries) = first.inside in
        record {
          admits = all-admitted t (λ v. unlink_tests v handle) (λ v. []) admits (handle-good, (ap not e, tt));
          inside = omega arith;
          without = first.without;
        }
