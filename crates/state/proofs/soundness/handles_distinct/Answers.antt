use Rattle.std.proofs.Common.{ltb, rules, tests}
use Rattle.std.proofs.lemmas.List.Sorted.{answers_always}
use Rattle.state.proofs.FoundLaws.{ascended}
use Rattle.state.proofs.soundness.handles_distinct.Goals as goal

pub returns-then-is_sorted_by : goal.returns-then-is_sorted_by
returns-then-is_sorted_by c =
    ascended c.args.entries.now _ (c.is_sorted_by.ensures.cases (λ x y. ltb x.handle y.handle) (answers_always _ _ _ (λ f a r q k. search (rules, tests)))) c.if-is_sorted_by.true
