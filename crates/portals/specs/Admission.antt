-- Whether a call is admitted: its first step. A call that is not leaves by its refusal.
use Rattle.std.specs.Prelude.{◌≡◌, Bool, true, false, List, Result, Ok, Err}
use Rattle.matching.specs.declared.refusals.Refusal.{Refusal}
use Rattle.state.specs.Soundness.{is_sound}
use Rattle.state.specs.View.{View, view_of}
use Rattle.state.specs.Parts.{TargetFits}
use Rattle.state.specs.declared.layout.Target.{Target}
use Rattle.portals.specs.Refusals.{Condition, unless_refused}

-- whether a call is admitted, on any state: BAD_STATE comes before its own tests
abbrev pub admission_if : Bool → List Condition → Result Unit Refusal
admission_if true tests = unless_refused Err tests (Ok tt)
admission_if false tests = Err Refusal.BadState

abbrev pub admission : (View → List Condition) → Target → Result Unit Refusal
admission tests t = admission_if (is_sound t) (tests (view_of t))

-- a call is admitted only where the state is sound, and so its parts fit
pub record Admits (tests : View → List Condition) (t : Target) (a : Result Unit Refusal) : Type 0 where
  pub answer : a ≡ admission tests t
  pub fits : a ≡ Ok tt → TargetFits t
