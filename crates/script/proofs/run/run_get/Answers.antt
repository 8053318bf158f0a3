use mathlib.Core.Path.{◌≡◌}
use native.Mathlib.Omega.{arith}
use lib.ListN.{length, take, replicate, length-replicate}
use Rattle.std.proofs.lemmas.List.{take-replicate}
use Rattle.conservation.specs.Runs as runs
use Rattle.reader.specs.Judging.{SCRIPT_MEMORY}
use Rattle.script.proofs.RunLaws.{get-ran}
use Rattle.script.proofs.run.run_get.Goals as goal

pub returns : goal.returns
returns c =
    let asked = c.args.asked in
    let zeros : take asked c.zero_bytes-zeros.result ≡ replicate asked 0
    = rw c.zero_bytes-zeros.ensures (take-replicate asked SCRIPT_MEMORY 0 c.requires.0) in
    let size : length (take asked c.zero_bytes-zeros.result) ≡ asked = rw zeros (length-replicate asked 0) in
    let ran =
    get-ran c.get-answer.ensures (runs.get _ c.get-answer.ensures) (omega (arith, c.requires.0, c.get-answer.auto.reply, size))
    c.say.ensures c.put_reply.ensures in
    rw zeros at ran
