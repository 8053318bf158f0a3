-- Laws of `Wrote`. Assumes nothing.
use Prim.Native.Nat.{ℕ, ◌+◌, ◌≤◌}
use mathlib.Core.Path.{◌≡◌, refl, sym, ap, ◌∙◌}
use mathlib.Core.List.{List, [], ◌++◌, append_assoc, append-nil}
use native.Mathlib.Omega.{arith}
use lib.ListN.{length, take, length-append}
use Rattle.text.specs.Writing.{Wrote}
use Rattle.text.specs.declared.writing.Writer.{Writer}

-- one text after another
pub and_then : {w w' w'' : Writer} {m n : ℕ} {s t : List ℕ} → Wrote w s m w' → Wrote w' t n w'' → Wrote w (s ++ t) (m + n) w''
and_then {w} {w'} {w''} {m} {n} {s} {t} p q = record {
  front = q.front ∙ ap (λ (l : List ℕ). l ++ t) p.front ∙ append_assoc (take w.at w.out.now) s t;
  next = q.next ∙ rw (p.next, length-append) (omega arith);
  short = rw length-append (omega (arith, p.short, q.short));
  buffer = q.buffer ∙ p.buffer;
  same = q.same ∙ p.same;
}

-- the same text, said in another way
pub as_text : {w w' : Writer} {m n : ℕ} {s t : List ℕ} → s ≡ t → length t ≤ n → Wrote w s m w' → Wrote w t n w'
as_text {w} {w'} {m} {n} {s} {t} e h p = record {
  front = rw e at p.front;
  next = rw e at p.next;
  short = h;
  buffer = p.buffer;
  same = p.same;
}

-- no text
pub wrote_none : (w : Writer) → Wrote w [] 0 w
wrote_none w = record {
  front = sym (append-nil (take w.at w.out.now));
  next = omega arith;
  short = omega arith;
  buffer = refl;
  same = refl;
}

-- the same, where more bytes are allowed
pub shorter : {w w' : Writer} {m n : ℕ} {s : List ℕ} → m ≤ n → Wrote w s m w' → Wrote w s n w'
shorter h p = record {
  front = p.front;
  next = p.next;
  short = omega (arith, h, p.short);
  buffer = p.buffer;
  same = p.same;
}
