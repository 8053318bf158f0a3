-- The numbers of the arrivals: each is waiting or handed out, once, whatever is taken by a walk or arrives.
use mathlib.Core.Path.{◌≡◌, refl, sym}
use mathlib.Core.Bool.{Bool, true, false, cond}
use mathlib.Core.List.{List, [], ◌∷◌, ◌++◌, map}
use Prim.Native.Nat.{ℕ, ◌+◌, ◌<◌, ◌≤◌}
use native.Mathlib.Omega.{arith}
use native.Mathlib.Decide.{dec_lt, ℕ_discrete}
use borrow.Author.Tests.{lt-ltb, le-ltb, eq-eqb, ne_eqb, ltb-true}
use lib.Dec.{ltb, eqb}
use lib.ListN.{length, length-append}
use Rattle.state.specs.Lists.{every, select, select_not, first_only, without_first}
use Rattle.state.proofs.ListLaws.{Part, nothing, keeps, leaves, part-every, both, joined, cond_map, every-join, every-imply}
use Rattle.early.specs.Walk.{walk}
use Rattle.conservation.specs.Conserved.{times, ascends}
use Rattle.conservation.proofs.Relations.{Numbers}

-- ## What a walk parts

-- a list is parted in two, both in its order
pub data Parted {A : Type 0} : List A → List A → List A → Type 0 where
  none : Parted [] [] []
  found : {x : A} {f l all : List A} → Parted f l all → Parted (x ∷ f) l (x ∷ all)
  left : {x : A} {f l all : List A} → Parted f l all → Parted f (x ∷ l) (x ∷ all)

module _ {A : Type 0} where
  pub none_found : (l : List A) → Parted [] l l
  none_found [] = none
  none_found (x ∷ l) = left (none_found l)

  -- by whether the first element passes the test: what is done with it, and with the rest
  all-parted : (p : A → Bool) (l : List A) → Parted (select p l) (select_not p l) l
  all-parted p [] = none
  all-parted p (x ∷ l) = go (p x) (all-parted p l)
    where
      go : (c : Bool) → Parted (select p l) (select_not p l) l
          → Parted (cond c (x ∷ select p l) (select p l)) (cond c (select_not p l) (x ∷ select_not p l)) (x ∷ l)
      go true rest = found rest
      go false rest = left rest

  first-parted : (p : A → Bool) (l : List A) → Parted (first_only p l) (without_first p l) l
  first-parted p [] = none
  first-parted p (x ∷ l) = go (p x) (first-parted p l)
    where
      go : (c : Bool) → Parted (first_only p l) (without_first p l) l
          → Parted (cond c (x ∷ []) (first_only p l)) (cond c l (x ∷ without_first p l)) (x ∷ l)
      go true rest = found (none_found l)
      go false rest = left rest

  pub walk-parted : (once : Bool) (p : A → Bool) (l : List A) → Parted (walk once p l).found (walk once p l).left l
  walk-parted true p l = first-parted p l
  walk-parted false p l = all-parted p l

  pub parted-left : {f l all : List A} → Parted f l all → Part l all
  parted-left none = nothing
  parted-left (found p) = leaves (parted-left p)
  parted-left (left p) = keeps (parted-left p)

  pub parted-found : {f l all : List A} → Parted f l all → Part f all
  parted-found none = nothing
  parted-found (found p) = keeps (parted-found p)
  parted-found (left p) = leaves (parted-found p)

  parted-length : {f l all : List A} → Parted f l all → length all ≡ length l + length f
  parted-length none = refl
  parted-length (found p) = let n = parted-length p in omega arith
  parted-length (left p) = let n = parted-length p in omega arith

-- a walk over elements by what is read of them
module _ {A B : Type 0} (f : A → B) (p : B → Bool) where
  select-map : (l : List A) → select p (map f l) ≡ map f (select (λ x. p (f x)) l)
  select-map [] = refl
  select-map (x ∷ l) = rw (select-map l) (sym (cond_map (map f) (p (f x)) (x ∷ select (λ y. p (f y)) l) (select (λ y. p (f y)) l)))

  select_not-map : (l : List A) → select_not p (map f l) ≡ map f (select_not (λ x. p (f x)) l)
  select_not-map [] = refl
  select_not-map (x ∷ l) = rw (select_not-map l) (sym (cond_map (map f) (p (f x)) (select_not (λ y. p (f y)) l) (x ∷ select_not (λ y. p (f y)) l)))

  first_only-map : (l : List A) → first_only p (map f l) ≡ map f (first_only (λ x. p (f x)) l)
  first_only-map [] = refl
  first_only-map (x ∷ l) = rw (first_only-map l) (sym (cond_map (map f) (p (f x)) (x ∷ []) (first_only (λ y. p (f y)) l)))

  without_first-map : (l : List A) → without_first p (map f l) ≡ map f (without_first (λ x. p (f x)) l)
  without_first-map [] = refl
  without_first-map (x ∷ l) = rw (without_first-map l) (sym (cond_map (map f) (p (f x)) l (x ∷ without_first (λ y. p (f y)) l)))

  pub walk-map : (once : Bool) (l : List A)
      → walk once p (map f l) ≡ record { found = map f (walk once (λ x. p (f x)) l).found; left = map f (walk once (λ x. p (f x)) l).left }
  walk-map true l = rw (first_only-map l, without_first-map l)
  walk-map false l = rw (select-map l, select_not-map l)

-- ## Ascending numbers

ascends-from : (low from : ℕ) (l : List ℕ) → low ≤ from → ascends from l ≡ true → ascends low l ≡ true
ascends-from low from [] h e = refl
ascends-from low from (k ∷ l) h e =
    let s = both (ltb from (k + 1)) (ascends (k + 1) l) e in
    let n : from < k + 1 = ltb-true from (k + 1) s.0 in
    joined (ltb low (k + 1)) (ascends (k + 1) l) (lt-ltb low (k + 1) (omega arith)) s.1

ascends-part : (low : ℕ) {l all : List ℕ} → Part l all → ascends low all ≡ true → ascends low l ≡ true
ascends-part low nothing e = refl
ascends-part low (keeps {x = k} {l = l} {m = all} h) e =
    let s = both (ltb low (k + 1)) (ascends (k + 1) all) e in
    joined (ltb low (k + 1)) (ascends (k + 1) l) s.0 (ascends-part (k + 1) h s.1)
ascends-part low (leaves {x = k} {l = l} {m = all} h) e =
    let s = both (ltb low (k + 1)) (ascends (k + 1) all) e in
    let n : low < k + 1 = ltb-true low (k + 1) s.0 in
    ascends-from low (k + 1) l (omega arith) (ascends-part (k + 1) h s.1)

-- a number above all others comes last
ascends-last : (low n : ℕ) (l : List ℕ) → low ≤ n → every (λ k. ltb k n) l ≡ true → ascends low l ≡ true → ascends low (l ++ (n ∷ [])) ≡ true
ascends-last low n [] h b e = joined (ltb low (n + 1)) true (lt-ltb low (n + 1) (omega arith)) refl
ascends-last low n (k ∷ l) h b e =
    let s = both (ltb low (k + 1)) (ascends (k + 1) l) e in
    let t = both (ltb k n) (every (λ j. ltb j n) l) b in
    let under : k < n = ltb-true k n t.0 in
    joined (ltb low (k + 1)) (ascends (k + 1) (l ++ (n ∷ []))) s.0 (ascends-last (k + 1) n l (omega arith) t.1 s.1)

-- ## How often a number is in a list

module _ (n : ℕ) where
  times-append : (l r : List ℕ) → times n (l ++ r) ≡ times n l + times n r
  times-append [] r = omega arith
  times-append (k ∷ l) r = let ih : times n (l ++ r) ≡ times n l + times n r = times-append l r in omega arith

  times-parted : {f l all : List ℕ} → Parted f l all → times n all ≡ times n l + times n f
  times-parted none = refl
  times-parted (found p) = let ih = times-parted p in omega arith
  times-parted (left p) = let ih = times-parted p in omega arith

  -- the numbers below k + 1 are those below k, and k
  one_more : (k : ℕ) → cond (eqb k n) 1 0 + cond (ltb n k) 1 0 ≡ cond (ltb n (k + 1)) 1 0
  one_more k = go (dec_lt n k) (ℕ_discrete k n)
    where
      go : Dec (n < k) → Dec (k ≡ n) → cond (eqb k n) 1 0 + cond (ltb n k) 1 0 ≡ cond (ltb n (k + 1)) 1 0
      go (yes h) (yes e) = absurd (omega arith)
      go (yes h) (no e) = rw (ne_eqb _ _ e, lt-ltb _ _ h, lt-ltb n (k + 1) (omega arith))
      go (no h) (yes e) = let a : k ≤ n = omega arith in rw (eq-eqb _ _ e, le-ltb _ _ a, lt-ltb n (k + 1) (omega arith))
      go (no h) (no e) = let a : k ≤ n = omega arith in rw (ne_eqb _ _ e, le-ltb _ _ a, le-ltb n (k + 1) (omega arith))

-- ## Each once

-- what is found is handed out, what is left waits
pub numbers-parted : {waiting handed f l : List ℕ} {total : ℕ} → Parted f l waiting → Numbers waiting handed total → Numbers l (handed ++ f) total
numbers-parted {waiting} {handed} {f} {l} {total} p s = record {
  below = part-every (λ n. ltb n total) (parted-left p) s.below;
  ascending = ascends-part 0 (parted-left p) s.ascending;
  sum = let a = s.sum in let b = parted-length p in let c : length (handed ++ f) ≡ length handed + length f = length-append handed f in omega arith;
  once = λ n.
      let a = s.once n in
      let b = times-parted n p in
      let c = times-append n handed f in
      omega arith;
}

-- one more arrives, and waits
pub numbers-arrive : {waiting handed : List ℕ} {total : ℕ} → Numbers waiting handed total → Numbers (waiting ++ (total ∷ [])) handed (total + 1)
numbers-arrive {waiting} {handed} {total} s = record {
  below = every-join (λ n. ltb n (total + 1)) waiting total
      (every-imply (λ n. ltb n total) (λ n. ltb n (total + 1)) waiting (λ n e. let h : n < total = ltb-true n total e in lt-ltb n (total + 1) (omega arith)) s.below)
      (lt-ltb total (total + 1) (omega arith));
  ascending = ascends-last 0 total waiting (omega arith) s.below s.ascending;
  sum = let a = s.sum in let c : length (waiting ++ (total ∷ [])) ≡ length waiting + 1 = length-append waiting (total ∷ []) in omega arith;
  once = λ n.
      let a = s.once n in
      let b = times-append n waiting (total ∷ []) in
      let c = one_more n total in
      omega arith;
}
