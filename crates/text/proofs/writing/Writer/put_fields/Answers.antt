use native.Mathlib.Omega.{arith}
use Rattle.text.specs.Text.{field_of}
use Rattle.text.proofs.EachLaws.{each-begins, each-goes-on}
use Rattle.text.proofs.writing.Writer.put_fields.Goals as goal

pub loop-n-init : goal.loop-n-init
loop-n-init c = each-begins field_of c.args.self.now c.args.numbers.now 21

pub loop-n-preserved : goal.loop-n-preserved
loop-n-preserved c =
    each-goes-on field_of c.args.self.now _ _ c.args.numbers.now c.loop-n.n-index 21 (omega arith) c.loop-n.invariant c.put_field.ensures
