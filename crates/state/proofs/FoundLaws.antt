-- What the library's searches of a slice tell, in the words of Lists and Soundness.
use Rattle.std.proofs.Common.{◌≡◌, ℕ, suc, ◌<◌, ◌≤◌, Bool, true, false, ◌&&◌, ◌||◌, ltb, List, [], ◌∷◌, ◌++◌, length, take, drop, Option, None, Some, Iter, Bor, sym, refl, ap, ◌∙◌, add-one, arith, ltb-true, ne_eqb, length-take, take-append-drop}
use Rattle.std.specs.Fn.{Called}
use Rattle.std.specs.Iterator.{YieldsThen}
use Rattle.std.specs.List.{list_any, list_all, AllAdjacentBelow, FoldsTo, AllWithin, HoldsAt, IsAllAdjacentAnswer}
use Rattle.std.specs.Option.{MatchOption}
use Rattle.std.specs.Slice.Iter.{iter_rest}
use Rattle.std.proofs.iter.Yields.{fronts}
use Rattle.std.proofs.lemmas.Iterator.{YieldsList-from_slice, IsFirst-from_position}
use Rattle.std.proofs.lemmas.List.Recursion.{or_at, or_from_places}
use mathlib.Core.Bool.{or_assoc, false≢true}
use Rattle.std.proofs.lemmas.Iterator.Search.{all_from_yields_List, any_from_yields_List}
use native.Mathlib.Numerals.{unary_clauses}
use denote.Param.Members.{Mut}
use Rattle.state.specs.Lists.{every, any}
use Rattle.state.specs.Parts.{FoundFrom}
use Rattle.state.specs.View.{has_handle}
use Rattle.state.specs.Soundness.{distinct}
use Rattle.state.specs.declared.layout.HeldEntry.{HeldEntry}

-- ## All and any

module _ {A : Type 0} (p : A → Bool) where
  -- the library's words are these
  all-every : (l : List A) → list_all p l ≡ every p l
  all-every [] = refl
  all-every (x ∷ l) = ap (λ (b : Bool). p x && b) (all-every l)

  any_any : (l : List A) → list_any p l ≡ any p l
  any_any [] = refl
  any_any (x ∷ l) = ap (λ (b : Bool). p x || b) (any_any l)

  -- a closure that answers by the test, called at the elements of a slice in turn
  module _ {F : Type 0} {g : Mut F (Bor A × Unit {0}) Bool} (s u : Iter A) (f : F) (r : Bool) (l : List A) where
    pub all_told : (xs : List (Bor A)) × (o : Option (Bor A)) × (j : F) × YieldsThen fronts s xs o u × FoldsTo (λ q x q'. Called g q (x, tt) true q') f xs j × MatchOption o (r ≡ true) (λ x. (r ≡ false) × ((h : F) × Called g j (x, tt) false h))
        → ((x : Bor A) (b : Bool) (q : F) → Called g f (x, tt) b q → (q ≡ f) × (b ≡ p x.now))
        → iter_rest s ≡ l
        → r ≡ every p l
    all_told ran answers rest = all_from_yields_List p u f r ran (YieldsList-from_slice l rest) answers ∙ all-every l

    pub any_told : (xs : List (Bor A)) × (o : Option (Bor A)) × (j : F) × YieldsThen fronts s xs o u × FoldsTo (λ q x q'. Called g q (x, tt) false q') f xs j × MatchOption o (r ≡ false) (λ x. (r ≡ true) × ((h : F) × Called g j (x, tt) true h))
        → ((x : Bor A) (b : Bool) (q : F) → Called g f (x, tt) b q → (q ≡ f) × (b ≡ p x.now))
        → iter_rest s ≡ l
        → r ≡ any p l
    any_told ran answers rest = any_from_yields_List p u f r ran (YieldsList-from_slice l rest) answers ∙ any_any l

-- ## The place of one that passes

module _ {A : Type 0} (p : A → Bool) where
  found : (l : List A) (r : Option ℕ) (d : A)
      → MatchOption r (AllWithin (λ x. p x ≡ false) l 0 (length l)) (λ i. (i < length l) × HoldsAt (λ x. p x ≡ true) l i × AllWithin (λ x. p x ≡ false) l 0 i)
      → FoundFrom p l r
  found l None d h = or_from_places (any p) p refl (λ _ _. refl) l d (λ i n. h i d (omega arith) n)
  found l (Some k) d h = (or_at (any p) p refl (λ _ _. refl) l k d h.0 (h.1 d), h.0)

  any_append : (l m : List A) → any p (l ++ m) ≡ (any p l || any p m)
  any_append [] m = refl
  any_append (x ∷ l) m = ap (λ (b : Bool). p x || b) (any_append l m) ∙ sym (or_assoc (p x) (any p l) (any p m))

  -- none passes from k on: then it is up to those before
  pub found_before : (l : List A) (k : ℕ) (r : Option ℕ) → any p (drop k l) ≡ false → FoundFrom p (take k l) r → FoundFrom p l r
  found_before l k None e h =
      let both = any_append (take k l) (drop k l) in
      let whole = ap (any p) (take-append-drop k l) in
      sym whole ∙ both ∙ rw (h, e)
  found_before l k (Some i) e h =
      let both = any_append (take k l) (drop k l) in
      let whole = ap (any p) (take-append-drop k l) in
      let i_lt : i < length (take k l) = h.1 in
      (sym whole ∙ both ∙ rw h.0, omega (arith, simp length-take at i_lt))

  -- what the library's search tells
  module _ {F : Type 0} {g : Mut F (Bor A × Unit {0}) Bool} (d : A) (s u : Iter A) (f : F) (r : Option ℕ) (l : List A) where
    pub found_told : (xs : List (Bor A)) × (o : Option (Bor A)) × (j : F) × YieldsThen fronts s xs o u × FoldsTo (λ q x q'. Called g q (x, tt) false q') f xs j × MatchOption o (r ≡ None) (λ x. (r ≡ Some (length xs)) × ((h : F) × Called g j (x, tt) true h))
        → ((x : Bor A) (q : F) → Called g f (x, tt) true q → p x.now ≡ true)
        → ((x : Bor A) (q : F) → Called g f (x, tt) false q → (q ≡ f) × (p x.now ≡ false))
        → iter_rest s ≡ l
        → FoundFrom p l r
    found_told ran hit miss rest =
        found l r d (IsFirst-from_position u f r (λ x. p x ≡ true) (λ x. p x ≡ false) ran (YieldsList-from_slice l rest) hit miss)

-- ## Handles

-- each handle is above the one before it
abbrev pub Ascend : List HeldEntry → Type 0
Ascend l = AllAdjacentBelow (λ x y. true ≡ ltb x.handle y.handle) l (length l)

ascend-rest : (x : HeldEntry) (l : List HeldEntry) → Ascend (x ∷ l) → Ascend l
ascend-rest x l up i d h = let k = up (suc i) d (omega arith) in rw add-one (simp unary_clauses at k)

-- so none up to the first one's is among the rest
ascend-above : (m : ℕ) (x : HeldEntry) (l : List HeldEntry) → m ≤ x.handle → Ascend (x ∷ l) → any (has_handle m) l ≡ false
ascend-above m x [] h up = refl
ascend-above m x (y ∷ l) h up =
    let k : x.handle < y.handle = ltb-true x.handle y.handle (sym (up 0 x (omega arith))) in
    rw (ne_eqb y.handle m (λ p. omega arith)) (ascend-above m y l (omega arith) (ascend-rest x (y ∷ l) up))

pub ascend-distinct : (l : List HeldEntry) → Ascend l → distinct l ≡ true
ascend-distinct [] up = refl
ascend-distinct (x ∷ l) up =
    rw (ascend-above x.handle x l (omega arith) up) (ascend-distinct l (ascend-rest x l up))

-- what the library says of handles that ascend
pub ascended : (l : List HeldEntry) (r : Bool) → IsAllAdjacentAnswer (λ x y b. b ≡ ltb x.handle y.handle) l r → r ≡ true → r ≡ distinct l
ascended l true up e = sym (ascend-distinct l up)
ascended l false up e = absurd (false≢true e)
