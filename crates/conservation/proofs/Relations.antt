-- What holds between the ledger, the view of a target and the memory beside it, and what each step has to show.
use mathlib.Core.Path.{◌≡◌}
use mathlib.Core.Bool.{true, cond}
use mathlib.Core.List.{List, ◌++◌}
use Prim.Native.Nat.{ℕ, ◌+◌}
use lib.Dec.{ltb}
use lib.ListN.{length}
use Rattle.state.specs.Lists.{every, select}
use Rattle.state.specs.View.{View, EventQueue, is_linked}
use Rattle.state.specs.Soundness.{sound_view, seen, sound}
use Rattle.state.specs.Registers.{register_at}
use Rattle.state.specs.declared.layout.HeldEntry.{HeldEntry}
use Rattle.state.specs.declared.layout.Event.{Event}
use Rattle.state.specs.declared.layout.Target.{Target}
use Rattle.conservation.specs.Steps.{Step, count, events_read, says_linked}
use Rattle.conservation.specs.Ledger.{Message, Fates, Ledger, hear, message_at, headers_at, queued_of}
use Rattle.conservation.specs.Runs.{Line}
use Rattle.conservation.specs.Answering.{register_of}
use Rattle.conservation.specs.Bytes.{memory_after, HostWrites}
use Rattle.conservation.specs.Conserved.{All, Right, times, ascends}

-- ## The parts

-- an entry of the target that has the handle of the message's entry is that entry, linked or retired; only its local offset may differ
pub record Home (entries : List HeldEntry) (x : Message) : Type 0 where
  pub named : x.header.handle ≡ x.entry.handle
  pub same : All (λ (y : HeldEntry). y.handle ≡ x.entry.handle → y.entry ≡ x.entry.entry) entries

-- the numbers of the arrivals, of which there are `total`
pub record Numbers (waiting handed : List ℕ) (total : ℕ) : Type 0 where
  pub below : every (λ n. ltb n total) waiting ≡ true
  pub ascending : ascends 0 waiting ≡ true
  pub sum : total ≡ length waiting + length handed
  pub once : (n : ℕ) → times n waiting + times n handed ≡ cond (ltb n total) 1 0

-- the events read, the queue, and what the ledger has of events
pub record SameEvents (reads : List Event) (q : EventQueue) (s : Fates) : Type 0 where
  pub events : reads ++ q.events ≡ queued_of s.all
  pub mark : q.lost ≡ s.mark

-- ## The whole

pub record Related (b : Ledger) (v : View) (m : List ℕ) : Type 0 where
  pub is_sound : sound_view v ≡ true
  pub memory : length m ≡ v.size
  pub linked : select is_linked v.entries ≡ b.linked
  pub headers : v.headers ≡ headers_at b b.waiting
  pub homes : All (λ n. Home v.entries (message_at b.arrivals n)) b.waiting
  pub numbers : Numbers b.waiting b.handed (length b.arrivals)
  pub events : SameEvents (events_read b.heard) v.queue b.events
  pub last : v.last ≡ count says_linked b.heard
  pub registers : (k : ℕ) → register_at v.registers k ≡ register_of b.heard k
  pub counters : v.counters ≡ b.counters

-- ## A step

-- the memory that a step leaves
abbrev pub Leaves : Ledger → List ℕ → Step → List ℕ → Type 0
Leaves b m s m' = (m' ≡ memory_after b m s) × HostWrites m s

pub record Follows (b : Ledger) (m : List ℕ) (l : Line) (v' : View) (m' : List ℕ) : Type 0 where
  pub related : Related (hear b l.step) v' m'
  pub right : Right b l
  pub memory : Leaves b m l.step m'

-- ## On a target

pub record At (b : Ledger) (t : Target) (m : List ℕ) : Type 0 where
  pub view : View
  pub is : seen t ≡ sound view
  pub related : Related b view m

pub record Reaches (b : Ledger) (m : List ℕ) (l : Line) (t' : Target) (m' : List ℕ) : Type 0 where
  pub view : View
  pub is : seen t' ≡ sound view
  pub follows : Follows b m l view m'
