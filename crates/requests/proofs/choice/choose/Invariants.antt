-- The outer loop goes from one list to the next, the inner one from one entry to the next.
use Rattle.state.proofs.ListLaws.{Seeking}
use Rattle.requests.specs.Choice.{is_candidate}
use Rattle.requests.proofs.ChoiceLaws.{Trying}
use Rattle.requests.proofs.choice.choose.Given as goal

abbrev pub invariant-loop-list : goal.invariant-loop-list
invariant-loop-list l = Trying l.entries l.portal l.a l.list

abbrev pub invariant-loop-i : goal.invariant-loop-i
invariant-loop-i l = Seeking (is_candidate l.portal l.list l.a) l.entries l.i
