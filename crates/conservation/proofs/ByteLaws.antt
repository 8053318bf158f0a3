-- Bytes of a memory after a write: those written stand in their place, those elsewhere stand as they did.
use mathlib.Core.Path.{◌≡◌, refl, ap, sym, ◌∙◌}
use mathlib.Core.Bool.{false}
use mathlib.Core.List.{List, [], ◌∷◌, ◌++◌, append-nil, append_assoc}
use mathlib.Core.Logic.{◌⊎◌, inl, inr, ⊎_elim}
use Prim.Native.Nat.{ℕ, zero, suc, ◌+◌, ◌-◌, ◌≤◌, min, max}
use native.Mathlib.Nat.{add-zero}
use native.Mathlib.Omega.{arith}
use native.Mathlib.Decide.{dec_le}
use borrow.Author.Tests.{ltb-false}
use lib.ListN.{length, take, drop, length-take, length-drop, length-append, take-append-drop}
use lib.Seq.{take-append-le, take_at, drop-append-le, drop-append-add, drop_at, drop-drop}
use Rattle.matching.specs.declared.layout.Entry.{Entry}
use Rattle.state.specs.Lists.{overwritten}
use Rattle.conservation.specs.Bytes.{bytes_at, share_byte}

-- bytes of the front of a list are its front's
front : (l r : List ℕ) (p n : ℕ) → p + n ≤ length l → bytes_at (l ++ r) p n ≡ bytes_at l p n
front l r p n h =
    let before : p ≤ length l = omega arith in
    let enough : n ≤ length (drop p l) = simp length-drop (omega arith) in
    ap (take n) (drop-append-le p l r before) ∙ take-append-le n (drop p l) r enough

-- ## A write

module _ (m : List ℕ) (at : ℕ) (s : List ℕ) (fits : at + length s ≤ length m) where
  first-length : length (take at m) ≡ at
  first-length = simp length-take (omega arith)

  -- the bytes written
  pub written-there : bytes_at (overwritten m at s) at (length s) ≡ s
  written-there =
      ap (λ (l : List ℕ). bytes_at l at (length s)) (append_assoc (take at m) s (drop (at + length s) m))
      ∙ ap (take (length s)) (drop_at (take at m) (s ++ drop (at + length s) m) at first-length)
      ∙ take_at s (drop (at + length s) m) (length s) refl

  module _ (p n : ℕ) where
    below : p + n ≤ at → bytes_at (overwritten m at s) p n ≡ bytes_at m p n
    below h =
        let l : p + n ≤ length (take at m) = simp length-take (omega arith) in
        ap (λ (l : List ℕ). bytes_at l p n) (append_assoc (take at m) s (drop (at + length s) m))
        ∙ front (take at m) (s ++ drop (at + length s) m) p n l
        ∙ sym (front (take at m) (drop at m) p n l)
        ∙ ap (λ (l : List ℕ). bytes_at l p n) (take-append-drop at m)

    above : at + length s ≤ p → bytes_at (overwritten m at s) p n ≡ bytes_at m p n
    above h =
        let e : length (take at m ++ s) ≡ at + length s = simp (length-append, length-take) (omega arith) in
        let q : p ≡ length (take at m ++ s) + (p - (at + length s)) = omega arith in
        let q' : at + length s + (p - (at + length s)) ≡ p = omega arith in
        ap (take n)
        (ap (λ (k : ℕ). drop k (overwritten m at s)) q
        ∙ drop-append-add (take at m ++ s) (drop (at + length s) m) (p - (at + length s))
        ∙ drop-drop (p - (at + length s)) (at + length s) m
        ∙ ap (λ (k : ℕ). drop k m) q')

    -- bytes before or after those written
    pub written-elsewhere : (p + n ≤ at) ⊎ (at + length s ≤ p) → bytes_at (overwritten m at s) p n ≡ bytes_at m p n
    written-elsewhere = ⊎_elim below above

-- ## Regions

-- so many bytes from a place on lie in the entry's region
pub record Inside (e : Entry) (p n : ℕ) : Type 0 where
  pub low : e.start ≤ p
  pub high : p + n ≤ e.start + e.length

-- of bytes in two regions that share none, those of one are before those of the other
places-apart : (e f : Entry) (at k p n : ℕ) → Inside e at (suc k) → Inside f p (suc n) → share_byte e f ≡ false
    → (p + suc n ≤ at) ⊎ (at + suc k ≤ p)
places-apart e f at k p n u w h = go (dec_le (p + suc n) at)
  where
    go : Dec (p + suc n ≤ at) → (p + suc n ≤ at) ⊎ (at + suc k ≤ p)
    go (yes y) = inl y
    go (no y) =
        let z : min (e.start + e.length) (f.start + f.length) ≤ max e.start f.start = ltb-false _ _ h in
        inr (omega arith)

-- nothing is written
pub written_none : (m : List ℕ) (at : ℕ) → overwritten m at [] ≡ m
written_none m at = rw (add-zero at, append-nil (take at m)) (take-append-drop at m)

-- a write into a region leaves the bytes of a region that shares none with it
pub written_apart : (m : List ℕ) (at : ℕ) (s : List ℕ) (e f : Entry) (p n : ℕ) → at + length s ≤ length m → Inside e at (length s) → Inside f p n
    → share_byte e f ≡ false
    → bytes_at (overwritten m at s) p n ≡ bytes_at m p n
written_apart m at [] e f p n fits u w h = ap (λ (l : List ℕ). bytes_at l p n) (written_none m at)
written_apart m at (y ∷ s) e f p zero fits u w h = refl
written_apart m at (y ∷ s) e f p (suc n) fits u w h =
    written-elsewhere m at (y ∷ s) fits p (suc n) (places-apart e f at (length s) p n u w h)
