-- What std's position finds, in the words of specs/Lists.antt.
use Rattle.std.proofs.Common.{◌≡◌, ℕ, suc, Bool, true, false, cond, List, [], ◌∷◌, sym, refl, ap, ◌∙◌, subst, add-one, arith}
use Rattle.std.specs.Prelude.{Option, None, Some, position}
use Rattle.std.specs.List.{position_from}
use Rattle.std.proofs.lemmas.Iterator.Adapters.{position_from-zero}
use Rattle.state.specs.Lists.{any, first_from}
use Rattle.state.proofs.ListLaws.{First, first_any}

from-first : {A : Type 0} (p : A → Bool) (k : ℕ) (l : List A) → position_from p k l ≡ first_from p k l
from-first p k [] = refl
from-first p k (x ∷ l) = ap (cond (p x) (Some k)) (ap (λ (i : ℕ). position_from p i l) (add-one k) ∙ from-first p (suc k) l)

-- the place of the first that passes
pub position-first : {A : Type 0} (p : A → Bool) (l : List A) → position p l ≡ first_from p 0 l
position-first p l = position_from-zero p l ∙ from-first p 0 l

-- where it finds none, no element passes
pub found-none : {A : Type 0} (p : A → Bool) (l : List A) → position p l ≡ None → any p l ≡ false
found-none p l e =
    first_any p (λ (o : Option ℕ). o ≡ None → any p l ≡ false) 0 l
    (λ nowhere h. nowhere)
    (λ m k same somewhere f h. cc)
    (sym (position-first p l) ∙ e)

-- where it finds one, that is the first that passes
pub found-at : {A : Type 0} (p : A → Bool) (l : List A) (at : ℕ) → position p l ≡ Some at → (any p l ≡ true) × First p l at
found-at p l at e =
    first_any p (λ (o : Option ℕ). o ≡ Some at → (any p l ≡ true) × First p l at) 0 l
    (λ nowhere h. absurd cc)
    (λ m k same somewhere f h.
    let n : m ≡ at = cc in
    let i : k ≡ at = omega arith in
    (somewhere, subst (λ (j : ℕ). First p l j) i f))
    (sym (position-first p l) ∙ e)
