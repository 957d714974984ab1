use Rattle.std.proofs.Common.{get_or, subst}
use Rattle.acct_core.specs.declared.event.Event.TheVariants.{Enter}
use Rattle.acct_core.specs.State.{IsLawfulMachine}
use Rattle.acct_core.proofs.RunLemmas.{takes_of, so_far_more, runs_end}
use Rattle.acct_core.proofs.machine.Core.run.Goals as goal

pub loop-event-init : goal.loop-event-init
loop-event-init c = record { runs = λ u r. r; lawful = subst IsLawfulMachine c.self.view_is c.self.invariant.0 }

pub loop-event-preserved : goal.loop-event-preserved
loop-event-preserved c = record {
  runs = so_far_more c.args.self.now c.loop-event.self c.step.new.self c.args.events.now c.loop-event.event-index
      (Enter 0 (record { 0 = 0 })) c.loop-event-test.true c.loop-event.invariant.runs
      (takes_of c.loop-event.self c.step.new.self (get_or c.args.events.now c.loop-event.event-index (Enter 0 (record { 0 = 0 })))
      c.step.result c.step.ensures.step c.step.ensures.taken c.step.ensures.unchanged);
  lawful = c.step.ensures.lawful;
}

pub returns-clause-runs : goal.returns-clause-runs
returns-clause-runs c = runs_end c.args.self.now c.loop-event.self c.args.events.now c.loop-event.event-index c.loop-event-test.false
    c.loop-event.invariant.runs
