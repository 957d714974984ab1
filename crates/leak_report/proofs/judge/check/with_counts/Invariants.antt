use Rattle.std.proofs.Common.{◌≡◌, ◌+◌, take}
use Rattle.mem_model.specs.Ledgers.{total_of}
use Rattle.leak_report.proofs.judge.check.with_counts.Given as goal

-- with those of the ledgers so far
abbrev pub invariant-loop-ledger : goal.invariant-loop-ledger
invariant-loop-ledger l = l.sum ≡ l.fn.references + total_of (take l.ledger-index l.ledgers)
