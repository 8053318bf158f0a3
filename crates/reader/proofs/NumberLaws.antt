-- Laws of little-endian numbers: std reads the same from as many bytes.
use mathlib.Core.Path.{◌≡◌, refl, sym, ap, ◌∙◌}
use mathlib.Core.List.{List, [], ◌∷◌}
use Prim.Native.Nat.{ℕ, zero, suc, ◌+◌, ◌-◌, ◌*◌, ◌≤◌}
use native.Mathlib.Nat.{pow-suc}
use native.Mathlib.Omega.{arith}
use lib.ListN.{length, take, drop, length-drop}
use lib.Seq.{length-take-le}
use Rattle.std.specs.List.{slice_index}
use Rattle.std.specs.Int.{byte_worth, sum_through}
use Rattle.reader.specs.Numbers.{little_endian, number_at}

-- ## std's sum, by its first byte

first_apart : (f : ℕ → ℕ) (n : ℕ) → sum_through f (suc n) ≡ f 0 + sum_through (λ i. f (suc i)) n
first_apart f zero = refl
first_apart f (suc n) =
    let before = first_apart f n in
    omega arith

each_more : (f g : ℕ → ℕ) (n : ℕ) → ((i : ℕ) → f i ≡ 256 * g i) → sum_through f n ≡ 256 * sum_through g n
each_more f g zero e = e 0
each_more f g (suc n) e =
    let before = each_more f g n e in
    let last = e (suc n) in
    omega arith

worth_more : (b i : ℕ) → byte_worth (suc i) b ≡ 256 * byte_worth i b
worth_more b zero = omega arith
worth_more b (suc i) = rw (pow-suc 256 (suc i)) (omega arith)

by_bytes : (bs : List ℕ) (n : ℕ) → length bs ≡ suc n → sum_through (λ i. byte_worth i (slice_index bs i)) n ≡ little_endian bs
unfolding little_endian
by_bytes (b ∷ []) zero e = omega arith
by_bytes (b ∷ c ∷ bs) (suc n) e =
    first_apart (λ i. byte_worth i (slice_index (b ∷ c ∷ bs) i)) n
    ∙ ap (λ (k : ℕ). b + k)
    (each_more (λ i. byte_worth (suc i) (slice_index (c ∷ bs) i)) (λ i. byte_worth i (slice_index (c ∷ bs) i)) n (λ i. worth_more (slice_index (c ∷ bs) i) i)
    ∙ ap (λ (k : ℕ). 256 * k) (by_bytes (c ∷ bs) n (omega arith)))
by_bytes [] n e = absurd (omega arith)
by_bytes (b ∷ []) (suc n) e = absurd (omega arith)
by_bytes (b ∷ c ∷ bs) zero e = absurd (omega arith)

-- what std reads from the bytes at a place
pub number_read : (s bytes : List ℕ) (at n : ℕ) → at + suc n ≤ length s → bytes ≡ take (at + suc n - at) (drop at s)
    → sum_through (λ i. byte_worth i (slice_index bytes i)) n ≡ number_at s at (suc n)
unfolding number_at
number_read s bytes at n inside is =
    let size : at + suc n - at ≡ suc n = omega arith in
    let part : bytes ≡ take (suc n) (drop at s) = rw (sym size) is in
    let left : suc n ≤ length (drop at s) = rw length-drop (omega arith) in
    let count : length bytes ≡ suc n = rw part (length-take-le (suc n) (drop at s) left) in
    by_bytes bytes n count ∙ ap (λ (bs : List ℕ). little_endian bs) part
