use Rattle.acct_core.specs.State.{IsLawfulMachine}
use Rattle.acct_core.proofs.RunLemmas.{RunsSoFar}
use Rattle.acct_core.proofs.machine.Core.run.Given as goal

abbrev pub invariant-loop-event : goal.invariant-loop-event
invariant-loop-event l = record { runs : RunsSoFar l.initial.self l.events l.event-index l.self; lawful : IsLawfulMachine l.self }
