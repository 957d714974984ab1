use Rattle.std.proofs.Common.{◌≡◌, filter, take}
use Rattle.mem_model.specs.Ledgers.{is_below}
use Rattle.mem_model.proofs.ledgers.ledgers_below.Given as goal

abbrev pub invariant-loop-ledger : goal.invariant-loop-ledger
invariant-loop-ledger l = l.below.items ≡ filter (is_below l.at.0) (take l.ledger-index l.ledgers)
