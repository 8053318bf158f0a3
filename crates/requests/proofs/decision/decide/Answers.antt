-- The chosen entry is asked, and it alone; where there is none the request is dropped.
use Rattle.requests.proofs.DeliverableLaws.{chosen_in_use, chosen_bounded, decides_none, decides_at}
use Rattle.requests.proofs.decision.decide.Goals as goal

pub decide_at-requires-clause-k_lt_count : goal.decide_at-requires-clause-k_lt_count
decide_at-requires-clause-k_lt_count c =
    let chosen = rw c.in_use.ensures at c.choose.ensures in
    chosen_in_use _ c.args.portal c.args.a.now c.requires.target_fits c.requires.t_value _ chosen _ c.in-Priority.is

pub decide_at-requires-clause-bounded : goal.decide_at-requires-clause-bounded
decide_at-requires-clause-bounded c =
    let chosen = rw c.in_use.ensures at c.choose.ensures in
    chosen_bounded _ c.args.portal c.args.a.now c.requires.target_fits c.requires.t_value _ chosen _ c.in-Priority.is

pub returns-in-Nothing : goal.returns-in-Nothing
returns-in-Nothing c =
    let chosen = rw c.in_use.ensures at c.choose.ensures in
    decides_none _ c.args.portal c.args.a.now c.requires.target_fits c.requires.t_value _ chosen c.in-Nothing.is

pub returns-in-Priority : goal.returns-in-Priority
returns-in-Priority c =
    let chosen = rw c.in_use.ensures at c.choose.ensures in
    decides_at _ c.args.portal c.args.a.now c.requires.target_fits c.requires.t_value _ chosen _ c.in-Priority.is _ c.decide_at.ensures
