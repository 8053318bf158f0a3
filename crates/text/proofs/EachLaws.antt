-- Laws of `each_of`: a loop that writes the text of each element of a list. Assumes nothing.
use Prim.Native.Nat.{ℕ, ◌+◌, ◌*◌, ◌<◌}
use mathlib.Core.Path.{◌≡◌, refl, sym, ap, ◌∙◌}
use mathlib.Core.List.{List, [], ◌∷◌, ◌++◌, append-nil, append_assoc}
use native.Mathlib.Omega.{arith}
use native.Mathlib.Numerals.{add-one}
use lib.ListN.{length, take, get_or}
use lib.Seq.{take-suc}
use Rattle.text.specs.Text.{each_of}
use Rattle.text.specs.Writing.{Wrote}
use Rattle.text.specs.declared.writing.Writer.{Writer}
use Rattle.text.proofs.WritingLaws.{and_then, as_text, wrote_none}

module _ (text : ℕ → List ℕ) where
  each_append : (xs ys : List ℕ) → each_of text (xs ++ ys) ≡ each_of text xs ++ each_of text ys
  unfolding each_of
  each_append [] ys = refl
  each_append (x ∷ xs) ys =
      ap (λ (l : List ℕ). text x ++ l) (each_append xs ys) ∙ sym (append_assoc (text x) (each_of text xs) (each_of text ys))

  each_more :
      (xs : List ℕ) (i : ℕ) → i < length xs → each_of text (take i xs) ++ text (get_or xs i 0) ≡ each_of text (take (i + 1) xs)
  unfolding each_of
  each_more xs i inside =
      sym (rw (add-one, take-suc xs i 0 inside) (each_append (take i xs) (get_or xs i 0 ∷ []) ∙ rw (append-nil (text (get_or xs i 0)))))

  -- before the first
  pub each-begins : (w : Writer) (xs : List ℕ) (most : ℕ) → Wrote w (each_of text (take 0 xs)) (most * 0) w
  unfolding each_of
  each-begins w xs most = as_text refl (omega arith) (wrote_none w)

  -- one more
  pub each-goes-on :
      (w w' w'' : Writer) (xs : List ℕ) (i most : ℕ)
      → i < length xs
      → Wrote w (each_of text (take i xs)) (most * i) w'
      → Wrote w' (text (get_or xs i 0)) most w''
      → Wrote w (each_of text (take (i + 1) xs)) (most * (i + 1)) w''
  each-goes-on w w' w'' xs i most inside p q =
      let more = each_more xs i inside in
      let both = and_then p q in
      let grown : most * (i + 1) ≡ most * i + most = omega arith in
      as_text more (rw (sym more, grown) both.short) both
