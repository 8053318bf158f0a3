use mathlib.Core.Path.{◌≡◌}
use Rattle.script.proofs.ReplayLaws.{Going}
use Rattle.script.proofs.replay.run_lines.Given as goal

abbrev pub invariant-loop-k : goal.invariant-loop-k
invariant-loop-k l =
    (l.printout.script.now ≡ l.script)
    × ((l.reader.script.now ≡ l.script) × ((l.reader.next ≡ l.k) × Going l.script l.k-end l.k l.printout.report l.t l.memory))
