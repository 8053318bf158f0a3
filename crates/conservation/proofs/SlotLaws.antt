-- The ledger counts the slots that are taken, and knows the entry of every waiting message.
use mathlib.Core.Path.{◌≡◌, refl, ap, sym, ◌∙◌, subst}
use mathlib.Core.Bool.{Bool, true, false, ◌||◌, not, cond, or-false}
use mathlib.Core.List.{List, [], ◌∷◌, map}
use Prim.Native.Nat.{ℕ, ◌+◌}
use native.Mathlib.Omega.{arith}
use borrow.Author.Tests.{not-true, eqb-true, eqb-false, eq-eqb, ne_eqb}
use lib.ListN.{length}
use Rattle.state.specs.Lists.{every, any, select}
use Rattle.state.specs.View.{is_linked, has_handle}
use Rattle.state.specs.Soundness.{distinct, names, waits_in, holds, lengths_kept, header_sound, keeps_slot}
use Rattle.state.specs.declared.layout.HeldEntry.{HeldEntry}
use Rattle.state.specs.declared.layout.Header.{Header}
use Rattle.state.proofs.ListLaws.{both, neither, or-other, part-select, part_none}
use Rattle.early.proofs.HandOutLaws.{select-all}
use Rattle.conservation.specs.Ledger.{Message}
use Rattle.conservation.specs.Answering.{slots_taken}
use Rattle.conservation.specs.Conserved.{All, WaitsIn}
use Rattle.conservation.proofs.Relations.{Home}

-- ## The entry of a handle

-- one entry has the handle
data Own (handle : ℕ) : List HeldEntry → Type 0 where
  here : {x : HeldEntry} {l : List HeldEntry} → x.handle ≡ handle → any (has_handle handle) l ≡ false → Own handle (x ∷ l)
  later : {x : HeldEntry} {l : List HeldEntry} → has_handle handle x ≡ false → Own handle l → Own handle (x ∷ l)

-- a header's handle is that of an entry that holds it
held-named : (h : Header) (x : HeldEntry) → holds h x ≡ true → h.handle ≡ x.handle
held-named h x e = eqb-true h.handle x.handle (both (waits_in x h) _ (both _ _ (both _ _ e).0).0).0

-- one entry has the handle of a header that is held
own : (l : List HeldEntry) (h : Header) → distinct l ≡ true → any (holds h) l ≡ true → Own h.handle l
own [] h d e = cc
own (x ∷ l) h d e =
    let s = both (not (any (has_handle x.handle) l)) (distinct l) d in
    by (has_handle h.handle x) refl (not-true _ s.0) (own l h s.1)
  where
    by : (same : Bool) → has_handle h.handle x ≡ same → any (has_handle x.handle) l ≡ false → (any (holds h) l ≡ true → Own h.handle l)
        → Own h.handle (x ∷ l)
    by true f n rest =
        let same : x.handle ≡ h.handle = eqb-true x.handle h.handle f in
        here same (subst (λ (k : ℕ). any (has_handle k) l ≡ false) same n)
    by false f n rest =
        later f (rest (or-other (holds h x) (any (holds h) l) (λ t. eqb-false x.handle h.handle f (sym (held-named h x t))) e))

-- where none passes none is selected
none-selected : {A : Type 0} (p : A → Bool) (l : List A) → any p l ≡ false → select p l ≡ []
none-selected p [] n = refl
none-selected p (x ∷ l) n = let s = neither (p x) (any p l) n in rw s.0 (none-selected p l s.1)

-- ## The slots

-- with no message waiting the linked entries keep theirs
linked-keep : (l : List HeldEntry) → select is_linked l ≡ select (keeps_slot []) l
linked-keep [] = refl
linked-keep (x ∷ l) = rw (or-false (is_linked x), linked-keep l)

module _ (h : Header) (others : List Header) where
  -- an entry of another handle keeps its slot whether or not the header waits
  other-keeps : (x : HeldEntry) → has_handle h.handle x ≡ false → keeps_slot (h ∷ others) x ≡ keeps_slot others x
  other-keeps x e = rw (ne_eqb h.handle x.handle (λ p. eqb-false x.handle h.handle e (sym p)))

  -- so where no entry has its handle the same entries keep theirs
  others_keep : (l : List HeldEntry) → any (has_handle h.handle) l ≡ false → select (keeps_slot (h ∷ others)) l ≡ select (keeps_slot others) l
  others_keep [] n = refl
  others_keep (x ∷ l) n =
      let s = neither (has_handle h.handle x) (any (has_handle h.handle) l) n in
      rw (other-keeps x s.0, others_keep l s.1)

  -- one more header takes one more slot, unless its entry is linked or has another
  one_more : {l : List HeldEntry} → Own h.handle l
      → length (select (keeps_slot (h ∷ others)) l)
      ≡ cond (any (has_handle h.handle) (select is_linked l) || any (names h.handle) others) 0 1 + length (select (keeps_slot others) l)
  one_more (here {x} {l} e n) = by (is_linked x) (any (names h.handle) others) refl refl
    where
      none : any (has_handle h.handle) (select is_linked l) ≡ false
      none = part_none (has_handle h.handle) (part-select is_linked l) n

      by : (linked waits : Bool) → is_linked x ≡ linked → any (names h.handle) others ≡ waits
          → length (select (keeps_slot (h ∷ others)) (x ∷ l))
          ≡ cond (any (has_handle h.handle) (select is_linked (x ∷ l)) || any (names h.handle) others) 0 1 + length (select (keeps_slot others) (x ∷ l))
      by true waits f g = rw (f, eq-eqb x.handle h.handle e, others_keep l n) (omega arith)
      by false true f g = rw (f, e, eq-eqb h.handle h.handle refl, none, g, others_keep l n) (omega arith)
      by false false f g = rw (f, e, eq-eqb h.handle h.handle refl, none, g, others_keep l n) (omega arith)
  one_more (later {x} {l} e rest) =
      rw (other-keeps x e, passed (is_linked x))
      (by (keeps_slot others x) (select (keeps_slot (h ∷ others)) l) (select (keeps_slot others) l) _ (one_more rest))
    where
      passed : (linked : Bool)
          → any (has_handle h.handle) (cond linked (x ∷ select is_linked l) (select is_linked l)) ≡ any (has_handle h.handle) (select is_linked l)
      passed true = rw e
      passed false = refl

      by : (keeps : Bool) (k m : List HeldEntry) (n : ℕ) → length k ≡ n + length m → length (cond keeps (x ∷ k) k) ≡ n + length (cond keeps (x ∷ m) m)
      by true k m n ih = omega arith
      by false k m n ih = ih

-- the entries that a target holds are as many as the slots that the ledger counts
pub slots-taken : (entries : List HeldEntry) (headers : List Header)
    → distinct entries ≡ true → every (header_sound entries) headers ≡ true → every (keeps_slot headers) entries ≡ true
    → length entries ≡ slots_taken (select is_linked entries) headers
slots-taken entries headers d sound keep =
    ap length (sym (select-all (keeps_slot headers) entries keep)) ∙ counted headers sound
  where
    counted : (hs : List Header) → every (header_sound entries) hs ≡ true
        → length (select (keeps_slot hs) entries) ≡ slots_taken (select is_linked entries) hs
    counted [] e = ap length (sym (linked-keep entries))
    counted (h ∷ hs) e =
        let s = both (header_sound entries h) (every (header_sound entries) hs) e in
        let ih = counted hs s.1 in
        let more = one_more h hs (own entries h d (both (any (holds h) entries) (lengths_kept h) s.0).0) in
        omega arith

-- ## The entry of a waiting message

-- the target has one entry of a waiting message's handle, and it is the message's
pub waits-in-own : (entries : List HeldEntry) (x : Message) → distinct entries ≡ true → header_sound entries x.header ≡ true → Home entries x
    → WaitsIn entries x
waits-in-own entries x d e home =
    alone (subst (λ (n : ℕ). Own n entries) home.named (own entries x.header d (both (any (holds x.header) entries) _ e).0)) home.same
  where
    alone : {l : List HeldEntry} → Own x.entry.handle l
        → All (λ (y : HeldEntry). y.handle ≡ x.entry.handle → y.entry ≡ x.entry.entry) l
        → map (λ (y : HeldEntry). y.entry) (select (has_handle x.entry.handle) l) ≡ x.entry.entry ∷ []
    alone (here {x = y} {l = l} f n) same = rw (eq-eqb y.handle x.entry.handle f, none-selected (has_handle x.entry.handle) l n, same.0 f)
    alone (later f rest) same = rw f (alone rest same.1)
