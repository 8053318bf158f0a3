-- The log of a script, beside its printout: its calls with their answers, as the theorem of `conservation` speaks of them.
use Rattle.std.specs.Prelude.{ℕ, List, [], ◌∷◌, replicate}
use Rattle.state.specs.Soundness.{Seen, sound}
use Rattle.portals.specs.Making.{new}
use Rattle.portals.specs.Calls.{Call}
use Rattle.conservation.specs.Runs.{Line, line}
use Rattle.reader.specs.Contents.{head_of}
use Rattle.script.specs.Run.{called}
use Rattle.script.specs.Printout.{calls_of}

-- a call on a state as it is seen, and a memory, with the answer that its line shows
abbrev pub logged : Call → Seen → List ℕ → Line
logged c t memory = line memory c (called c t memory).answer

-- the log of calls, each on the state and the memory that the one before left
unfoldable pub log_from : List Call → Seen → List ℕ → List Line
log_from [] t memory = []
log_from (c ∷ cs) t memory = logged c t memory ∷ log_from cs (called c t memory).state (called c t memory).memory

-- of a good script: all calls, on a new target and a memory of zeros
abbrev pub log_of : List ℕ → List Line
log_of s =
    log_from (calls_of s) (sound (new (record { size = (head_of s).memory })).state) (replicate (head_of s).memory 0)
