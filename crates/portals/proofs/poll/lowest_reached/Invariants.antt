-- The loop looks at one place after the other; the lowest that is reached is found among all where it is found among the rest.
use Rattle.std.proofs.Common.{◌≡◌, drop}
use Rattle.portals.specs.CounterCalls.{reached_from}
use Rattle.portals.proofs.poll.lowest_reached.Given as goal

abbrev pub invariant-loop-i : goal.invariant-loop-i
invariant-loop-i l = reached_from l.cs.slots 0 l.ks l.tests ≡ reached_from l.cs.slots l.i (drop l.i l.ks) (drop l.i l.tests)
