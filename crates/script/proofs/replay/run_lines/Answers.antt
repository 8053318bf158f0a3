use Prim.Native.Nat.{◌<◌}
use mathlib.Core.Path.{◌≡◌, sym}
use native.Mathlib.Omega.{arith}
use Rattle.std.specs.Prelude.{Some, None}
use Rattle.std.proofs.lemmas.List.{length-take-le}
use Rattle.reader.specs.Contents.{CALLS, head_of, line_at}
use Rattle.reader.proofs.ContentsLaws.{place_next}
use Rattle.reader.proofs.JudgingLaws.{good_script_head, formed_there, some_there}
use Rattle.script.proofs.ReplayLaws.{good-memory, called_at, going-begins, going_next, going_on, going-ends}
use Rattle.script.proofs.replay.run_lines.Goals as goal

pub head_of-head-requires : goal.head_of-head-requires
head_of-head-requires c = (good_script_head c.args.printout.now.script.now c.requires.0).whole

pub slice_bounds-zeros-end : goal.slice_bounds-zeros-end
slice_bounds-zeros-end c = (good-memory _ _ _ c.head_of-head.ensures c.requires.0 c.zero_bytes-zeros.ensures).0

pub slice_bounds-memory-end : goal.slice_bounds-memory-end
slice_bounds-memory-end c =
    sym (length-take-le _ _ (good-memory _ _ _ c.head_of-head.ensures c.requires.0 c.zero_bytes-zeros.ensures).0)

pub loop-k-init : goal.loop-k-init
loop-k-init c =
    let p = c.args.printout.now in
    let memory = good-memory _ _ _ c.head_of-head.ensures c.requires.0 c.zero_bytes-zeros.ensures in
    (cc, (cc, (cc, going-begins p.script.now _ p.report _ _ c.head_of-head.ensures c.requires.0 c.requires.1 c.new.ensures memory.1)))

pub unreachable-requires : goal.unreachable-requires
unreachable-requires c =
    let s = c.args.printout.now.script.now in
    let k = c.loop-k.k in
    let inside : k < (head_of s).count = omega (arith, c.loop-k-test.true, c.loop-k.invariant.1.1.1.counted) in
    let none : line_at s k ≡ None = cc (c.read_line.ensures.line, c.in_default.is, c.loop-k.invariant.1.0, c.loop-k.invariant.1.1.0) in
    some_there s c.requires.0 k inside none

pub call_of-call-requires : goal.call_of-call-requires
call_of-call-requires c =
    let s = c.args.printout.now.script.now in
    let k = c.loop-k.k in
    let inside : k < (head_of s).count = omega (arith, c.loop-k-test.true, c.loop-k.invariant.1.1.1.counted) in
    let is : line_at s k ≡ Some c.in-Some.line = cc (c.read_line.ensures.line, c.in-Some.is, c.loop-k.invariant.1.0, c.loop-k.invariant.1.1.0) in
    formed_there s c.requires.0 k c.in-Some.line inside is

pub write_next-requires : goal.write_next-requires
write_next-requires c =
    let s = c.args.printout.now.script.now in
    let l = c.loop-k in
    let is : line_at s l.k ≡ Some c.in-Some.line = cc (c.read_line.ensures.line, c.in-Some.is, l.invariant.1.0, l.invariant.1.1.0) in
    rw l.invariant.0
    (going_next s _ l.k l.printout.report l.t l.memory l.invariant.1.1.1 _ c.loop-k-test.true
    (called_at s l.k c.in-Some.line c.call_of-call.result is c.call_of-call.ensures.call) _ _ _ _ c.new-w.ensures.start
    c.run_line.ensures _ c.written.ensures)

pub loop-k-preserved : goal.loop-k-preserved
loop-k-preserved c =
    let s = c.args.printout.now.script.now in
    let l = c.loop-k in
    let is : line_at s l.k ≡ Some c.in-Some.line = cc (c.read_line.ensures.line, c.in-Some.is, l.invariant.1.0, l.invariant.1.1.0) in
    let on =
    going_on s _ l.k l.printout.report l.t l.memory l.invariant.1.1.1 _ c.loop-k-test.true
    (called_at s l.k c.in-Some.line c.call_of-call.result is c.call_of-call.ensures.call) _ _ _ _ c.new-w.ensures.start
    c.run_line.ensures _ c.written.ensures c.write_next.new.self.report c.write_next.ensures.bytes in
    let few : l.k < CALLS = omega (arith, c.loop-k-test.true, l.invariant.1.1.1.few) in
    (cc, (cc, (cc (c.read_line.ensures.place, l.invariant.1.1.0, place_next l.k few), on)))

pub returns : goal.returns
returns c =
    let l = c.loop-k in
    going-ends c.args.printout.now.script.now _ l.k l.printout.report l.t l.memory l.invariant.1.1.1 c.loop-k-test.false
