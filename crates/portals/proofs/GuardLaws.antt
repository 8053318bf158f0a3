-- The tests of a call: it is refused, or it passed them all.
use mathlib.Core.Path.{◌≡◌, refl, ap, ◌∙◌}
use mathlib.Core.Bool.{true, cond}
use mathlib.Core.List.{List, [], ◌∷◌}
use Rattle.matching.specs.declared.refusals.Refusal.{Refusal}
use Rattle.state.proofs.ListLaws.{cond_cases, cond_map}
use Rattle.portals.specs.Refusals.{Condition, unless_refused}

abbrev pub AllPassed : List Condition → Type 0
AllPassed [] = Unit
AllPassed (c ∷ cs) = (c.passed ≡ true) × AllPassed cs

-- what holds of every refusal, and of what the call does where it passed its tests, holds of the call
pub guard-cases : {R : Type 0} (P : R → Type 0) (refuse : Refusal → R) (tests : List Condition) (does : R)
    → ((r : Refusal) → P (refuse r))
    → (AllPassed tests → P does)
    → P (unless_refused refuse tests does)
guard-cases P refuse [] does f g = g tt
guard-cases P refuse (c ∷ cs) does f g =
    cond_cases P c.passed (unless_refused refuse cs does) (refuse c.refusal)
    (λ e. guard-cases P refuse cs does f (λ rest. g (e, rest)))
    (λ e. f c.refusal)

-- what is read of a call's outcome is what is read of its refusal, or of what it does
pub unless-map : {R S : Type 0} (f : R → S) (refuse : Refusal → R) (tests : List Condition) (does : R)
    → f (unless_refused refuse tests does) ≡ unless_refused (λ r. f (refuse r)) tests (f does)
unless-map f refuse [] does = refl
unless-map f refuse (c ∷ cs) does =
    cond_map f c.passed (unless_refused refuse cs does) (refuse c.refusal)
    ∙ ap (λ x. cond c.passed x (f (refuse c.refusal))) (unless-map f refuse cs does)
