-- What holds of every element of a list.
use mathlib.Core.List.{List, [], ◌∷◌, ◌++◌}
use Prim.Native.Nat.{ℕ, zero, suc, ◌<◌}
use native.Mathlib.Omega.{arith}
use lib.ListN.{length, set, get_or}
use Rattle.state.proofs.ListLaws.{Part, nothing, keeps, leaves}
use Rattle.conservation.specs.Conserved.{All}

module _ {A : Type 0} (P : A → Type 0) where
  pub all-part : {l m : List A} → Part l m → All P m → All P l
  all-part nothing h = tt
  all-part (keeps k) h = (h.0, all-part k h.1)
  all-part (leaves k) h = all-part k h.1

  pub all-last : (l : List A) (x : A) → All P l → P x → All P (l ++ (x ∷ []))
  all-last [] x h p = (p, tt)
  all-last (y ∷ l) x h p = (h.0, all-last l x h.1 p)

  pub all_set : (l : List A) (k : ℕ) (x : A) → All P l → P x → All P (set l k x)
  all_set [] k x h p = tt
  all_set (y ∷ l) zero x h p = (p, h.1)
  all_set (y ∷ l) (suc k) x h p = (h.0, all_set l k x h.1 p)

  pub all-at : (l : List A) (k : ℕ) (d : A) → k < length l → All P l → P (get_or l k d)
  all-at [] k d i h = absurd (omega arith)
  all-at (y ∷ l) zero d i h = h.0
  all-at (y ∷ l) (suc k) d i h = all-at l k d (omega arith) h.1

  pub all-imply : (Q : A → Type 0) (l : List A) → ((x : A) → P x → Q x) → All P l → All Q l
  all-imply Q [] f h = tt
  all-imply Q (x ∷ l) f h = (f x h.0, all-imply Q l f h.1)

  pub all_both : (Q R : A → Type 0) (l : List A) → ((x : A) → P x → Q x → R x) → All P l → All Q l → All R l
  all_both Q R [] f p q = tt
  all_both Q R (x ∷ l) f p q = (f x p.0 q.0, all_both Q R l f p.1 q.1)
