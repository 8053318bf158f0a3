-- How a call keeps its promise: where it is admitted it does what it is to do, and where it is refused it leaves all as it was.
use Rattle.std.specs.Prelude.{Result, Ok, Err, IsErrAnd}
use Rattle.std.proofs.lemmas.Result.{err_from_is_err_and}
use mathlib.Core.Path.{◌≡◌, refl, ap, sym, ◌∙◌, subst}
use mathlib.Core.Bool.{Bool, true, false, cond, false≢true}
use mathlib.Core.List.{List, [], ◌∷◌}
use borrow.Author.Tests.{le-leb}
use Rattle.matching.specs.declared.refusals.Refusal.{Refusal}
use Rattle.state.specs.View.{View, view_of}
use Rattle.state.specs.Soundness.{sound_view, counts_kept, is_sound, sound, unsound, seen}
use Rattle.state.specs.Parts.{TargetFits}
use Rattle.state.specs.declared.layout.Target.{Target}
use Rattle.state.proofs.ListLaws.{joined}
use Rattle.state.proofs.SoundLaws.{Sound, facts-sound, target_sound}
use Rattle.portals.specs.Refusals.{Condition, unless_refused}
use Rattle.portals.specs.Admission.{admission_if, admission, Admits}
use Rattle.portals.specs.Answers.{Answer, refused, is_refused}
use Rattle.portals.specs.Outcome.{Outcome, refusal, guarded, guarded_read, read_unless_unsound}
use Rattle.portals.specs.Promises.{Met, ReadMet}

-- ## What is seen of a state

pub seen-sound : (t : Target) → is_sound t ≡ true → seen t ≡ sound (view_of t)
unfolding seen
seen-sound t e = rw e

pub seen-unsound : (t : Target) → is_sound t ≡ false → seen t ≡ unsound t
unfolding seen
seen-unsound t e = rw e

-- the counts and the view make a state sound
pub sound-joined : (t : Target) → counts_kept t ≡ true → sound_view (view_of t) ≡ true → is_sound t ≡ true
unfolding is_sound
sound-joined t a b = joined (counts_kept t) (sound_view (view_of t)) a b

-- where all parts fit, the counts are kept
pub fits-counts : (t : Target) → TargetFits t → counts_kept t ≡ true
fits-counts t f =
    rw (le-leb _ _ f.entries.room, le-leb _ _ f.unexpected.room, le-leb _ _ f.queue.room)

-- ## What a call comes to, by its admission

-- `does` where the call is admitted, else `refuse` of the refusal
abbrev by_admission : {R : Type 0} → (Refusal → R) → R → Result Unit Refusal → R
by_admission refuse does (Ok u) = does
by_admission refuse does (Err r) = refuse r

module _ {R : Type 0} (refuse : Refusal → R) (does : R) where
  -- a test decides which of two admissions it is
  either : (passed : Bool) (x y : R) (a b : Result Unit Refusal)
      → x ≡ by_admission refuse does a
      → y ≡ by_admission refuse does b
      → cond passed x y ≡ by_admission refuse does (cond passed a b)
  either true x y a b p q = p
  either false x y a b p q = q

  -- the first refusal, or what the call does, is what its admission says
  unless-by : (tests : List Condition)
      → unless_refused refuse tests does ≡ by_admission refuse does (unless_refused Err tests (Ok tt))
  unless-by [] = refl
  unless-by (c ∷ cs) = either c.passed _ _ _ (Err c.refusal) (unless-by cs) refl

-- ## A call that may change the state

-- an admitted call did what it was to do, which is no refusal
pub record Done {B : Type 0} (does : Outcome View B) (t' : Target) (left : B) (answer : Answer) : Type 0 where
  pub answers : answer ≡ does.answer
  pub granted : is_refused does.answer ≡ false
  pub state : view_of t' ≡ does.state
  pub buffer : left ≡ does.buffer
  pub counts : counts_kept t' ≡ true

-- a refused one left all as it was
pub record Unchanged {B : Type 0} (r : Refusal) (t : Target) (lent : B) (t' : Target) (left : B) (answer : Answer) : Type 0 where
  pub answers : answer ≡ refused r
  pub state : t' ≡ t
  pub buffer : left ≡ lent

abbrev pub Ending : {B : Type 0} → Outcome View B → Target → B → Target → B → Answer → Result Unit Refusal → Type 0
Ending does t lent t' left answer (Ok u) = Done does t' left answer
Ending does t lent t' left answer (Err r) = Unchanged r t lent t' left answer

module _ {B : Type 0} (call : View → Outcome View B) (t : Target) (lent : B) (answer : Answer) (t' : Target) (left : B) where
  unsound-met : is_sound t ≡ false → Unchanged Refusal.BadState t lent t' left answer → Met call t lent answer t' left
  unsound-met h l = record {
    outcome = rw (l.answers, l.state, l.buffer, seen-unsound t h);
    unchanged = λ e. l.state;
  }

  refused-met : (r : Refusal) → is_sound t ≡ true → call (view_of t) ≡ refusal (view_of t) lent r → Unchanged r t lent t' left answer
      → Met call t lent answer t' left
  refused-met r h is l = record {
    outcome = rw (l.answers, l.state, l.buffer, seen-sound t h, is);
    unchanged = λ e. l.state;
  }

  done-met : (does : Outcome View B) → is_sound t ≡ true → call (view_of t) ≡ does → sound_view does.state ≡ true → Done does t' left answer
      → Met call t lent answer t' left
  done-met does h is kept d =
      let e : seen t' ≡ sound does.state =
      seen-sound t' (sound-joined t' d.counts (rw d.state kept)) ∙ ap sound d.state in
      record {
        outcome = rw (e, d.answers, d.buffer, seen-sound t h, is);
        unchanged = λ refused. absurd (false≢true (sym d.granted ∙ sym (ap is_refused d.answers) ∙ refused));
      }

-- `call` is `does` behind its tests, and keeps a state sound
module _ {B : Type 0} (call does : View → Outcome View B) (tests : View → List Condition) (lent : B)
    (is : (v : View) → call v ≡ guarded v lent (tests v) (does v)) (kept : (v : View) → Sound v → Sound (call v).state) where
  call_by : (v : View) (a : Result Unit Refusal) → a ≡ admission_if true (tests v) → call v ≡ by_admission (refusal v lent) (does v) a
  call_by v a e = is v ∙ unless-by (refusal v lent) (does v) (tests v) ∙ ap (by_admission (refusal v lent) (does v)) (sym e)

  met-if : (t t' : Target) (left : B) (answer : Answer) (is_sound_here : Bool) → is_sound t ≡ is_sound_here
      → (a : Result Unit Refusal)
      → a ≡ admission_if is_sound_here (tests (view_of t))
      → Ending (does (view_of t)) t lent t' left answer a
      → Met call t lent answer t' left
  met-if t t' left answer false h a e ending =
      unsound-met call t lent answer t' left h (subst (Ending (does (view_of t)) t lent t' left answer) e ending)
  met-if t t' left answer true h (Ok u) e ending =
      let v = view_of t in
      let by : call v ≡ does v = call_by v (Ok u) e in
      done-met call t lent answer t' left (does v) h by
      (sym (ap (λ (o : Outcome View B). sound_view o.state) by) ∙ facts-sound (call v).state (kept v (target_sound t h)))
      ending
  met-if t t' left answer true h (Err r) e ending =
      refused-met call t lent answer t' left r h (call_by (view_of t) (Err r) e) ending

  -- a call that ends as its admission says keeps its promise
  pub met : (t t' : Target) (left : B) (answer : Answer) (a : Result Unit Refusal)
      → a ≡ admission tests t
      → Ending (does (view_of t)) t lent t' left answer a
      → Met call t lent answer t' left
  met t t' left answer a e ending = met-if t t' left answer (is_sound t) refl a e ending

-- `call` is `does` behind its tests, and keeps a state sound
pub record Guarded {B : Type 0} (call does : View → Outcome View B) (tests : View → List Condition) (lent : B) : Type 0 where
  pub is : (v : View) → call v ≡ guarded v lent (tests v) (does v)
  pub kept : (v : View) → Sound v → Sound (call v).state

module _ {B : Type 0} {call does : View → Outcome View B} {tests : View → List Condition} {lent : B} (g : Guarded call does tests lent) where
  -- a refused call that left all as it was keeps its promise
  pub refused-kept : (t : Target) (r : Refusal) → Admits tests t (Err r) → Met call t lent (refused r) t lent
  refused-kept t r a =
      met call does tests lent g.is g.kept t t lent (refused r) (Err r) a.answer (record { answers = refl; state = refl; buffer = refl })

  -- so does an admitted one that did what it was to do
  pub done-kept : (t t' : Target) (left : B) (answer : Answer)
      → Admits tests t (Ok tt)
      → Done (does (view_of t)) t' left answer
      → Met call t lent answer t' left
  done-kept t t' left answer a done = met call does tests lent g.is g.kept t t' left answer (Ok tt) a.answer done

-- ## A call that only reads

module _ (call does : View → Answer) (tests : View → List Condition) (is : (v : View) → call v ≡ guarded_read (tests v) (does v)) where
  read-if : (t : Target) (is_sound_here : Bool) → is_sound t ≡ is_sound_here
      → by_admission refused (does (view_of t)) (admission_if is_sound_here (tests (view_of t))) ≡ read_unless_unsound call (seen t)
  read-if t false h = rw (seen-unsound t h)
  read-if t true h = rw (seen-sound t h) (sym (is (view_of t) ∙ unless-by refused (does (view_of t)) (tests (view_of t))))

  -- a call that answers as its admission says keeps its promise
  pub read-met : (t : Target) (answer : Answer) (a : Result Unit Refusal)
      → a ≡ admission tests t
      → answer ≡ by_admission refused (does (view_of t)) a
      → ReadMet call t answer
  read-met t answer a e f = record { outcome = f ∙ ap (by_admission refused (does (view_of t))) e ∙ read-if t (is_sound t) refl }

pub record GuardedRead (call does : View → Answer) (tests : View → List Condition) : Type 0 where
  pub is : (v : View) → call v ≡ guarded_read (tests v) (does v)

module _ {call does : View → Answer} {tests : View → List Condition} (g : GuardedRead call does tests) (t : Target) where
  pub read-refused : (r : Refusal) → Admits tests t (Err r) → ReadMet call t (refused r)
  read-refused r a = read-met call does tests g.is t (refused r) (Err r) a.answer refl

  pub read-done : (answer : Answer) → Admits tests t (Ok tt) → answer ≡ does (view_of t) → ReadMet call t answer
  read-done answer a e = read-met call does tests g.is t answer (Ok tt) a.answer e

-- ## The exit of a `?`

-- a refusal that is handed on is the same; a bad argument is ARG_INVALID
pub handed-on : {A : Type 0} (r : Result A Refusal) (e : Refusal) → IsErrAnd r (λ d. d ≡ e) → r ≡ Err e
handed-on r e h = let p = err_from_is_err_and r h in rw (p.1, p.2)
