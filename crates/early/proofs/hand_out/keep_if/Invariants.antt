-- The loop looks at one after the other, and moves it up to the front if it passes.
use Rattle.std.proofs.Common.{◌≡◌, Bool, ◌≤◌}
use Rattle.std.specs.Borrow.{Bor}
use Rattle.std.proofs.lemmas.List.Filters.{FiltersInPlace}
use Rattle.early.proofs.hand_out.keep_if.Given as goal

abbrev pub invariant-loop-i : goal.invariant-loop-i
invariant-loop-i g l =
    (l.kept ≤ l.i)
    × ((p : g.row.T.Denot → Bool) → ((x : Bor g.row.T.Denot) (r : Bool) → g.F.Fn.post l.keeps (x, tt) r → r ≡ p x.now)
    → FiltersInPlace p l.initial.part l.part l.kept l.i)
