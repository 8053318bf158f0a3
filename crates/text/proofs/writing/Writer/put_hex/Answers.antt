use native.Mathlib.Omega.{arith}
use Rattle.text.specs.Text.{hex_byte}
use Rattle.text.proofs.EachLaws.{each-begins, each-goes-on}
use Rattle.text.proofs.writing.Writer.put_hex.Goals as goal

pub loop-byte-init : goal.loop-byte-init
loop-byte-init c = each-begins hex_byte c.args.self.now c.args.bytes.now 2

pub loop-byte-preserved : goal.loop-byte-preserved
loop-byte-preserved c =
    each-goes-on hex_byte c.args.self.now _ _ c.args.bytes.now c.loop-byte.byte-index 2 (omega arith) c.loop-byte.invariant
    c.put_hex_byte.ensures
