-- One that passes moves up; another stays behind.
use Rattle.std.proofs.Common.{◌∙◌, sym, arith, rules}
use Rattle.std.proofs.lemmas.List.Filters.{FiltersInPlace-all, FiltersInPlace-more_set, FiltersInPlace-more_no}
use Rattle.early.proofs.HandOutLaws.{filter-select}
use Rattle.early.proofs.hand_out.keep_if.Goals as goal
use Rattle.early.proofs.hand_out.keep_if.Goals.{then-keeps, else-keeps}

pub bounds-part-kept : goal.bounds-part-kept
bounds-part-kept g c = omega (arith, c.loop-i.invariant.0, c.loop-i-test.true, c.loop-i.auto.part)

pub loop-i-init : goal.loop-i-init
loop-i-init g c = (omega arith, λ p tells. search rules)

pub loop-i-preserved : goal.loop-i-preserved
loop-i-preserved g c =
    elim c.if-keeps.branch [
      | then-keeps w ↦
          rw (w.part-is, w.kept-is) (
            omega (arith, c.loop-i.invariant.0),
            λ p tells. FiltersInPlace-more_set {x = c.index-part-i.result} (c.loop-i.invariant.1 p tells) (omega (arith, c.loop-i-test.true, c.loop-i.auto.part))
                (sym (tells _ _ c.keeps.ensures) ∙ w.if-keeps.true) c.index-part-i.is,
          )
      | else-keeps w ↦
          rw (w.part-is, w.kept-is) (
            omega (arith, c.loop-i.invariant.0),
            λ p tells. FiltersInPlace-more_no {x = c.index-part-i.result} (c.loop-i.invariant.1 p tells) (omega (arith, c.loop-i-test.true, c.loop-i.auto.part))
                (sym (tells _ _ c.keeps.ensures) ∙ w.if-keeps.false) c.index-part-i.is,
          )
    ]

pub returns-clause-few : goal.returns-clause-few
returns-clause-few g c = omega (arith, c.loop-i.invariant.0, c.loop-i.auto.i-end)

pub returns-clause-kept : goal.returns-clause-kept
returns-clause-kept g c = λ p tells. FiltersInPlace-all (c.loop-i.invariant.1 p tells) c.loop-i-test.false ∙ filter-select p c.args.part.now
