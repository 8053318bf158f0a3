-- Laws of `decimal_of`: its digits, and how many there are. Assumes nothing.
use Prim.Native.Nat.{ℕ, zero, suc, ◌+◌, ◌/◌, ◌%◌, ◌^◌, ◌≤◌, ◌<◌}
use mathlib.Core.Path.{◌≡◌, refl, sym, ap, ◌∙◌}
use mathlib.Core.List.{List, [], ◌∷◌, ◌++◌}
use mathlib.Core.Bool.{Bool, true, false, cond}
use native.Mathlib.Nat.{pow-suc}
use lib.Dec.{ltb}
use native.Mathlib.Omega.{arith}
use lib.ListN.{length, length-append}
use borrow.Author.Tests.{lt-ltb, le-ltb}
use Rattle.text.specs.Text.{digits_of, decimal_of}
use Rattle.text.specs.Writing.{Wrote}
use Rattle.text.specs.declared.writing.Writer.{Writer}
use Rattle.text.proofs.WritingLaws.{and_then, as_text}

-- a number of k digits has the same digits where one more is allowed
more : (k n : ℕ) → n < 10 ^ suc k → digits_of (suc k) n ≡ digits_of (suc (suc k)) n
unfolding digits_of
more zero n h = rw (lt-ltb n 10 h)
more (suc k) n h =
    let less : n / 10 < 10 ^ suc k = omega (arith, rw (pow-suc 10 (suc k)) at h) in
    rw (digits_of, digits_of, more k (n / 10) less) refl

decimal-more : (n : ℕ) → 10 ≤ n → n < 10 ^ 20 → decimal_of n ≡ decimal_of (n / 10) ++ ((48 + n % 10) ∷ [])
unfolding decimal_of digits_of
decimal-more n large h =
    let less : n / 10 < 10 ^ 19 = omega arith in
    rw (le-ltb n 10 large, more 18 (n / 10) less) refl

decimal-one : (n : ℕ) → n < 10 → decimal_of n ≡ (48 + n) ∷ []
unfolding decimal_of digits_of
decimal-one n h = rw (lt-ltb n 10 h)

cond-short : (b : Bool) (xs ys : List ℕ) (n : ℕ) → length xs ≤ n → length ys ≤ n → length (cond b xs ys) ≤ n
cond-short true xs ys n h k = h
cond-short false xs ys n h k = k

digits-short : (k n : ℕ) → length (digits_of k n) ≤ k
unfolding digits_of
digits-short zero n = omega arith
digits-short (suc k) n =
    let front = digits-short k (n / 10) in
    cond-short (ltb n 10) _ _ (suc k) (omega arith) (rw length-append (omega arith))

pub decimal_short : (n : ℕ) → length (decimal_of n) ≤ 20
unfolding decimal_of
decimal_short n = digits-short 20 n

-- how many digits there are
pub one_digit : (n : ℕ) → n < 10 → length (decimal_of n) ≡ 1
one_digit n small = ap (λ (l : List ℕ). length l) (decimal-one n small)

pub more_digits : (n : ℕ) → 10 ≤ n → n < 2 ^ 64 → length (decimal_of n) ≡ length (decimal_of (n / 10)) + 1
more_digits n large fits =
    ap (λ (l : List ℕ). length l) (decimal-more n large (omega arith)) ∙ length-append (decimal_of (n / 10)) ((48 + n % 10) ∷ [])

-- a number of one digit is written, and one of more: those before the last, and the last
pub wrote_one : (w w' : Writer) (n : ℕ) → n < 10 → Wrote w ((48 + n) ∷ []) 1 w' → Wrote w (decimal_of n) (length (decimal_of n)) w'
wrote_one w w' n small p = as_text (sym (decimal-one n small)) (omega arith) p

pub wrote_more :
    (w w' w'' : Writer) (n : ℕ)
    → 10 ≤ n
    → n < 2 ^ 64
    → Wrote w (decimal_of (n / 10)) (length (decimal_of (n / 10))) w'
    → Wrote w' ((48 + n % 10) ∷ []) 1 w''
    → Wrote w (decimal_of n) (length (decimal_of n)) w''
wrote_more w w' w'' n large fits p q = as_text (sym (decimal-more n large (omega arith))) (omega arith) (and_then p q)
