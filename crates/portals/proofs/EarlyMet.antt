-- How append and search keep their promises: the walk is the one that the rules give, and the target is left as the handling of the
-- headers found says.
use Rattle.std.specs.Prelude.{Result, Ok}
use mathlib.Core.Path.{◌≡◌, refl, ap, sym, ◌∙◌}
use mathlib.Core.Bool.{Bool, true, false}
use mathlib.Core.List.{[], ◌∷◌}
use Prim.Native.Nat.{ℕ}
use lib.ListN.{length}
use Rattle.matching.specs.Entry.{bad_entry_argument}
use Rattle.matching.specs.declared.layout.Entry.{Entry}
use Rattle.matching.specs.declared.refusals.Refusal.{Refusal}
use Rattle.state.specs.View.{View, view_of, headers_of}
use Rattle.state.specs.declared.layout.Header.{Header}
use Rattle.state.specs.declared.layout.Target.{Target}
use Rattle.early.specs.Walk.{Walk, walk_for, walk_if, found_once}
use Rattle.early.specs.Handling.{handled}
use Rattle.early.specs.Parts.{walk_of, WalkHolds, TargetAllows, TargetAfter}
use Rattle.early.specs.declared.walk.Walked.{Walked}
use Rattle.early.specs.declared.handling.Handling.{Handling}
use Rattle.early.proofs.AfterLaws.{walk-allows, after-view, after-fits}
use Rattle.portals.specs.Refusals.{good_arguments}
use Rattle.portals.specs.Admission.{Admits}
use Rattle.portals.specs.Answers.{Answer, SEARCHED, is_refused, appended_as}
use Rattle.portals.specs.Outcome.{Outcome}
use Rattle.portals.specs.EarlyMessages.{taken_by, next_handle, append_by, appended, append_tests, append, search_handling, searched, search_tests, search, taken_or_linked, append_handling}
use Rattle.portals.specs.Promises.{Met}
use Rattle.portals.proofs.AdmitLaws.{admitted-sound}
use Rattle.portals.proofs.EarlyKept.{append-sound, search-sound}
use Rattle.portals.proofs.MetLaws.{fits-counts, Done, Guarded, done-kept}

-- ## What the functions below ask

-- a sound target and its walk are as is asked
pub walked-allows : (tests : View → _) (t : Target) (walks : Bool) (e : Entry) (w : Walked)
    → Admits tests t (Ok tt)
    → WalkHolds e (headers_of t.unexpected) w (walk_if walks e (headers_of t.unexpected))
    → TargetAllows t e w
walked-allows tests t walks e w admits h = walk-allows t walks e w (admitted-sound t tests admits.answer) (admits.fits refl) h

-- ## The state that is left

-- a call did what it was to do with the headers found
handled-done : (t t' : Target) (e : Entry) (w : Walked) (v : Walk Header) (how : Handling) (does : Outcome View Unit) (answer : Answer)
    → WalkHolds e (headers_of t.unexpected) w v
    → TargetAfter t e w how t'
    → answer ≡ does.answer
    → is_refused does.answer ≡ false
    → does.state ≡ handled (view_of t) e v how
    → Done does t' tt answer
handled-done t t' e w v how does answer walks after answers granted is = record {
  answers = answers;
  granted = granted;
  state = after-view t t' e w how after ∙ ap (λ (u : Walk Header). handled (view_of t) e u how) walks.held ∙ sym is;
  buffer = refl;
  counts = fits-counts t' (after-fits t t' e w how after);
}

-- ## Append

pub append-guarded : (e : Entry) → Guarded (λ v. append v e) (λ v. appended v e (taken_by e v.headers)) (λ v. append_tests v e) tt
unfolding append
append-guarded e = record { is = λ v. refl; kept = λ v s. append-sound v e s }

module _ (t t' : Target) (e : Entry) (w : Walked) where
  append-by-done : (v : Walk Header) (taken : Bool)
      → WalkHolds e (headers_of t.unexpected) w v
      → TargetAfter t e w (append_handling (taken_or_linked taken t.last)) t'
      → Done (append_by taken (view_of t) e v) t' tt (appended_as (taken_or_linked taken t.last))
  append-by-done v true walks after = handled-done t t' e w v Handling.Take _ _ walks after refl refl refl
  append-by-done v false walks after = handled-done t t' e w v (Handling.Link (next_handle t.last)) _ _ walks after refl refl refl

  pub append-met : (taken : Bool)
      → Admits (λ v. append_tests v e) t (Ok tt)
      → WalkHolds e (headers_of t.unexpected) w (taken_by e (headers_of t.unexpected))
      → taken ≡ found_once e (walk_of e (headers_of t.unexpected) w)
      → TargetAfter t e w (append_handling (taken_or_linked taken t.last)) t'
      → Met (λ v. append v e) t tt (appended_as (taken_or_linked taken t.last)) t' tt
  append-met taken admits walks is after =
      let v = taken_by e (headers_of t.unexpected) in
      let found : taken ≡ found_once e v = is ∙ ap (found_once e) walks.held in
      done-kept (append-guarded e) t t' tt (appended_as (taken_or_linked taken t.last)) admits
      (rw (← found) (append-by-done v taken walks after))

-- ## Search

pub search-guarded : (e : Entry) → Guarded (λ v. search v e) (λ v. searched v e (walk_for e v.headers)) (λ v. search_tests v e) tt
unfolding search
search-guarded e = record { is = λ v. refl; kept = λ v s. search-sound v e s }

-- its entry is tested against the target's memory
pub search-admits : (t : Target) (e : Entry) (a : Result Unit Refusal)
    → Admits (λ v. good_arguments (bad_entry_argument e t.size) ∷ []) t a
    → Admits (λ v. search_tests v e) t a
search-admits t e a h = record { answer = h.answer; fits = h.fits }

pub search-met : (t t' : Target) (e : Entry) (w : Walked) (count : ℕ)
    → Admits (λ v. search_tests v e) t (Ok tt)
    → WalkHolds e (headers_of t.unexpected) w (walk_for e (headers_of t.unexpected))
    → count ≡ length (walk_of e (headers_of t.unexpected) w).found
    → TargetAfter t e w (search_handling e.list) t'
    → Met (λ v. search v e) t tt (SEARCHED count) t' tt
search-met t t' e w count admits walks is after =
    done-kept (search-guarded e) t t' tt (SEARCHED count) admits
    (handled-done t t' e w (walk_for e (headers_of t.unexpected)) (search_handling e.list) _ _ walks after
    (ap SEARCHED (is ∙ ap (λ (v : Walk Header). length v.found) walks.held)) refl refl)
