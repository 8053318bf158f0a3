use Prim.Native.Nat.{◌*◌}
use lib.ListN.{take}
use Rattle.text.specs.Text.{field_of, each_of}
use Rattle.text.specs.Writing.{Wrote}
use Rattle.text.proofs.writing.Writer.put_fields.Given as goal

abbrev pub invariant-loop-n : goal.invariant-loop-n
invariant-loop-n l = Wrote l.initial.self (each_of field_of (take l.n-index l.numbers)) (21 * l.n-index) l.self
