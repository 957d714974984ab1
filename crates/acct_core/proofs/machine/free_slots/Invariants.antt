use Rattle.std.proofs.Common.{◌≡◌, map, replicate}
use Rattle.acct_core.specs.Claims.{no_claim}
use Rattle.acct_core.specs.Slots.{claim_of}
use Rattle.acct_core.proofs.machine.free_slots.Given as goal

abbrev pub invariant-loop : goal.invariant-loop
invariant-loop l = map claim_of l.slots.items ≡ replicate l.counter no_claim
