-- The loops of a poll: what the definition says of the whole lists is what it says of the rest from place i on.
use mathlib.Core.Path.{◌≡◌}
use mathlib.Core.List.{List}
use Rattle.std.specs.Prelude.{None, Some}
use Prim.Native.Nat.{ℕ, ◌+◌, ◌≤◌, ◌<◌}
use native.Mathlib.Numerals.{add-one}
use borrow.Author.Tests.{le-leb, lt-leb}
use lib.ListN.{length, drop, get_or, drop_of_length-le}
use lib.Seq.{drop-cons}
use Rattle.state.specs.Counters.{counter_at}
use Rattle.state.specs.declared.layout.Counter.{Counter}
use Rattle.portals.specs.CounterCalls.{reached_from}

-- ## The lowest place that has reached its test

module _ (counters : List Counter) (ks tests : List ℕ) (i : ℕ) where
  -- it is i
  pub reached-here : i < length ks → i < length tests
      → get_or tests i 0 ≤ (counter_at counters (get_or ks i 0)).success
      → reached_from counters i (drop i ks) (drop i tests) ≡ Some i
  reached-here h k e = rw (drop-cons ks i 0, drop-cons tests i 0, le-leb _ _ e)

  -- it is among those after i
  pub reached-later : i < length ks → i < length tests
      → (counter_at counters (get_or ks i 0)).success < get_or tests i 0
      → reached_from counters i (drop i ks) (drop i tests) ≡ reached_from counters (i + 1) (drop (i + 1) ks) (drop (i + 1) tests)
  reached-later h k e = rw (add-one, drop-cons ks i 0, drop-cons tests i 0, lt-leb _ _ e)

  -- no place is left
  pub reached-none : length ks ≤ i → reached_from counters i (drop i ks) (drop i tests) ≡ None
  reached-none h = rw (drop_of_length-le ks h)
