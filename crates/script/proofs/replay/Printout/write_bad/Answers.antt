use mathlib.Core.Path.{refl}
use native.Mathlib.Omega.{arith}
use Rattle.text.proofs.WritingLaws.{and_then}
use Rattle.script.proofs.ReplayLaws.{from_start, whole-next, whole-done}
use Rattle.script.proofs.replay.Printout.write_bad.Goals as goal

pub write_next-requires : goal.write_next-requires
write_next-requires c =
    let p = c.args.self.now in
    whole-next p.script.now p.report c.requires.0 c.requires.1 c.in-Head.is refl (omega arith)

pub returns-in-Head : goal.returns-in-Head
returns-in-Head c =
    let p = c.args.self.now in
    whole-done p.script.now p.report c.requires.0 c.requires.1 c.in-Head.is refl _ c.write_next.ensures.bytes

pub write_next-requires-in-Call : goal.write_next-requires-in-Call
write_next-requires-in-Call c =
    let p = c.args.self.now in
    let wrote = and_then (and_then c.put_bytes.ensures c.put_fields.ensures) c.put_byte.ensures in
    let line = from_start c.new-w.ensures.start wrote c.written.ensures in
    whole-next p.script.now p.report c.requires.0 c.requires.1 c.in-Call.is line (rw line (omega (arith, wrote.short)))

pub returns-in-Call : goal.returns-in-Call
returns-in-Call c =
    let p = c.args.self.now in
    let wrote = and_then (and_then c.put_bytes.ensures c.put_fields.ensures) c.put_byte.ensures in
    let line = from_start c.new-w.ensures.start wrote c.written.ensures in
    whole-done p.script.now p.report c.requires.0 c.requires.1 c.in-Call.is line _ c.write_next-in-Call.ensures.bytes
