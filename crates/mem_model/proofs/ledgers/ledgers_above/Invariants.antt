use Rattle.std.proofs.Common.{◌≡◌, filter, take}
use Rattle.mem_model.specs.Ledgers.{is_above}
use Rattle.mem_model.proofs.ledgers.ledgers_above.Given as goal

abbrev pub invariant-loop-ledger : goal.invariant-loop-ledger
invariant-loop-ledger l = l.above.items ≡ filter (is_above l.at.0) (take l.ledger-index l.ledgers)
