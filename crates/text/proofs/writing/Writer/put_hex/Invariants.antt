use Prim.Native.Nat.{◌*◌}
use lib.ListN.{take}
use Rattle.text.specs.Text.{hex_byte, each_of}
use Rattle.text.specs.Writing.{Wrote}
use Rattle.text.proofs.writing.Writer.put_hex.Given as goal

abbrev pub invariant-loop-byte : goal.invariant-loop-byte
invariant-loop-byte l = Wrote l.initial.self (each_of hex_byte (take l.byte-index l.bytes)) (2 * l.byte-index) l.self
