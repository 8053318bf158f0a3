-- The messages that wait, by their numbers: the arrivals only grow, and a number keeps its message.
use mathlib.Core.Path.{◌≡◌, refl, ap, sym, ◌∙◌}
use mathlib.Core.Bool.{true}
use mathlib.Core.List.{List, [], ◌∷◌, ◌++◌, map, append-nil}
use Prim.Native.Nat.{ℕ, zero, suc, ◌+◌, ◌<◌, ◌≤◌}
use native.Mathlib.Omega.{arith}
use borrow.Author.Tests.{ltb-true}
use lib.Dec.{ltb}
use lib.ListN.{length, length-append}
use Rattle.state.specs.Lists.{every}
use Rattle.state.specs.Soundness.{entry_sound, header_sound}
use Rattle.state.specs.declared.layout.HeldEntry.{HeldEntry}
use Rattle.state.specs.declared.layout.Header.{Header}
use Rattle.state.proofs.ListLaws.{both, part-every}
use Rattle.conservation.specs.Ledger.{Message, message_at, header_at}
use Rattle.conservation.specs.Conserved.{All}
use Rattle.conservation.proofs.Relations.{Home, Numbers}
use Rattle.conservation.proofs.NumberLaws.{Parted, parted-left, numbers-parted, numbers-arrive}
use Rattle.conservation.proofs.AllLaws.{all-last}
use Rattle.conservation.proofs.EntryLaws.{home-given}

message-stays : (arrivals more : List Message) (n : ℕ) → n < length arrivals → message_at (arrivals ++ more) n ≡ message_at arrivals n
message-stays [] more n h = absurd (omega arith)
message-stays (x ∷ l) more zero h = refl
message-stays (x ∷ l) more (suc n) h = message-stays l more n (omega arith)

message-new : (arrivals : List Message) (x : Message) → message_at (arrivals ++ (x ∷ [])) (length arrivals) ≡ x
message-new [] x = refl
message-new (y ∷ l) x = message-new l x

-- numbers of arrivals so far
abbrev pub Below : List Message → List ℕ → Type 0
Below arrivals ns = every (λ n. ltb n (length arrivals)) ns ≡ true

module _ (arrivals more : List Message) where
  -- the same headers, and what holds of the messages still holds
  headers-stay : (ns : List ℕ) → Below arrivals ns → map (header_at (arrivals ++ more)) ns ≡ map (header_at arrivals) ns
  headers-stay [] b = refl
  headers-stay (n ∷ ns) b =
      let s = both (ltb n (length arrivals)) (every (λ k. ltb k (length arrivals)) ns) b in
      let e = message-stays arrivals more n (ltb-true n (length arrivals) s.0) in
      λ i. (e i).header ∷ headers-stay ns s.1 i

  all_stay : (P : Message → Type 0) (ns : List ℕ) → Below arrivals ns
      → All (λ n. P (message_at arrivals n)) ns
      → All (λ n. P (message_at (arrivals ++ more) n)) ns
  all_stay P [] b h = tt
  all_stay P (n ∷ ns) b h =
      let s = both (ltb n (length arrivals)) (every (λ k. ltb k (length arrivals)) ns) b in
      (rw (message-stays arrivals more n (ltb-true n (length arrivals) s.0)) h.0, all_stay P ns s.1 h.1)

map_last : {A B : Type 0} (f : A → B) (l : List A) (x : A) → map f (l ++ (x ∷ [])) ≡ map f l ++ (f x ∷ [])
map_last f [] x = refl
map_last f (y ∷ l) x = ap (λ r. f y ∷ r) (map_last f l x)

-- the messages of the ledger against the entries and headers of the target
pub record Messages (arrivals : List Message) (waiting handed : List ℕ) (entries : List HeldEntry) (all : List Header) : Type 0 where
  pub headers : all ≡ map (header_at arrivals) waiting
  pub homes : All (λ n. Home entries (message_at arrivals n)) waiting
  pub numbers : Numbers waiting handed (length arrivals)

abbrev pub Homes : List HeldEntry → List Message → List ℕ → Type 0
Homes entries arrivals ns = All (λ n. Home entries (message_at arrivals n)) ns

module _ {arrivals : List Message} {waiting handed : List ℕ} {entries : List HeldEntry} {headers : List Header} (s : Messages arrivals waiting handed entries headers) where
  -- some are found and handed out, the others are left
  pub messages-parted : {f l : List ℕ} (entries' : List HeldEntry) (headers' : List Header) → Parted f l waiting → Homes entries' arrivals l
      → headers' ≡ map (header_at arrivals) l
      → Messages (arrivals ++ []) l (handed ++ f) entries' headers'
  messages-parted {f} {l} entries' headers' p homes e =
      let b : Below arrivals l = part-every (λ n. ltb n (length arrivals)) (parted-left p) s.numbers.below in
      record {
        headers = e ∙ sym (headers-stay arrivals [] l b);
        homes = all_stay arrivals [] (Home entries') l b homes;
        numbers = rw (append-nil arrivals) (numbers-parted p s.numbers);
      }

  -- a message arrives, and waits
  pub messages-arrive : (x : Message) (entries' : List HeldEntry) → Homes entries' arrivals waiting → Home entries' x
      → Messages (arrivals ++ (x ∷ [])) (waiting ++ (length arrivals ∷ [])) (handed ++ []) entries' (headers ++ (x.header ∷ []))
  messages-arrive x entries' homes home =
      let b = s.numbers.below in
      let one : length (arrivals ++ (x ∷ [])) ≡ length arrivals + 1 = length-append arrivals (x ∷ []) in
      record {
        headers =
            ap (λ (l : List Header). l ++ (x.header ∷ [])) (s.headers ∙ sym (headers-stay arrivals (x ∷ []) waiting b))
            ∙ ap (λ (y : Message). map (header_at (arrivals ++ (x ∷ []))) waiting ++ (y.header ∷ [])) (sym (message-new arrivals x))
            ∙ sym (map_last (header_at (arrivals ++ (x ∷ []))) waiting (length arrivals));
        homes = all-last (λ n. Home entries' (message_at (arrivals ++ (x ∷ [])) n)) waiting (length arrivals)
            (all_stay arrivals (x ∷ []) (Home entries') waiting b homes) (rw (message-new arrivals x) home);
        numbers = rw (append-nil handed, one) (numbers-arrive s.numbers);
      }

  -- the handle of a waiting message's entry was given
  pub handles-given : (size last : ℕ) → every (entry_sound size last) entries ≡ true → every (header_sound entries) headers ≡ true
      → All (λ n. (message_at arrivals n).entry.handle ≤ last) waiting
  handles-given size last e h = go waiting s.homes (rw (← s.headers) h)
    where
      go : (ns : List ℕ) → Homes entries arrivals ns → every (header_sound entries) (map (header_at arrivals) ns) ≡ true
          → All (λ n. (message_at arrivals n).entry.handle ≤ last) ns
      go [] homes hs = tt
      go (n ∷ ns) homes hs =
          let t = both (header_sound entries (header_at arrivals n)) (every (header_sound entries) (map (header_at arrivals) ns)) hs in
          (home-given size last entries (message_at arrivals n) e t.0 homes.0, go ns homes.1 t.1)
