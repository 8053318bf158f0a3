-- Each call by its promise, and by the text that is written of its answer.
use mathlib.Core.Path.{refl}
use Rattle.conservation.specs.Runs as runs
use Rattle.script.proofs.RunLaws.{ran, reads}
use Rattle.script.proofs.run.run_call.Goals as goal

pub returns-in-Put : goal.returns-in-Put
returns-in-Put c =
    ran (λ m. m) c.args.script.now c.in-Put.is (λ v. refl) c.put.ensures (runs.put _ c.put.ensures) c.say-in-Put.ensures

pub returns-in-Append : goal.returns-in-Append
returns-in-Append c =
    ran (λ _. c.args.memory.now) c.args.script.now c.in-Append.is (λ v. refl) c.append.ensures
    (runs.append _ c.append.ensures) c.say.ensures

pub returns-in-Unlink : goal.returns-in-Unlink
returns-in-Unlink c =
    ran (λ _. c.args.memory.now) c.args.script.now c.in-Unlink.is (λ v. refl) c.unlink.ensures
    (runs.unlink _ c.unlink.ensures) c.say-in-Unlink.ensures

pub returns-in-ReadEvent : goal.returns-in-ReadEvent
returns-in-ReadEvent c =
    ran (λ _. c.args.memory.now) c.args.script.now c.in-ReadEvent.is (λ v. refl) c.read_event.ensures
    (runs.read_event _ c.read_event.ensures) c.say-in-ReadEvent.ensures

pub returns-in-SetCounter : goal.returns-in-SetCounter
returns-in-SetCounter c =
    ran (λ _. c.args.memory.now) c.args.script.now c.in-SetCounter.is (λ v. refl) c.set_counter.ensures
    (runs.set_counter _ c.set_counter.ensures) c.say-in-SetCounter.ensures

pub returns-in-Increment : goal.returns-in-Increment
returns-in-Increment c =
    ran (λ _. c.args.memory.now) c.args.script.now c.in-Increment.is (λ v. refl) c.increment.ensures
    (runs.increment _ c.increment.ensures) c.say-in-Increment.ensures

pub returns-in-Search : goal.returns-in-Search
returns-in-Search c =
    ran (λ _. c.args.memory.now) c.args.script.now c.in-Search.is (λ v. refl) c.search.ensures
    (runs.search _ c.search.ensures) c.say-in-Search.ensures

pub returns-in-ReadCounter : goal.returns-in-ReadCounter
returns-in-ReadCounter c =
    ran (λ _. c.args.memory.now) c.args.script.now c.in-ReadCounter.is (λ v. refl) (reads c.read_counter.ensures)
    (runs.read_counter _ c.read_counter.ensures) c.say-in-ReadCounter.ensures

pub returns-in-ReadRegister : goal.returns-in-ReadRegister
returns-in-ReadRegister c =
    ran (λ _. c.args.memory.now) c.args.script.now c.in-ReadRegister.is (λ v. refl) (reads c.read_register.ensures)
    (runs.read_register _ c.read_register.ensures) c.say-in-ReadRegister.ensures
