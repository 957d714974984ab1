use Rattle.std.proofs.Common.{◌≡◌, ◌++◌, take, string_bytes}
use Rattle.std.specs.List.{flat_map}
use Rattle.leak_report.specs.ReportText.{ledger_text}
use Rattle.leak_report.proofs.report.add_ledgers.Given as goal

-- the ledgers so far are written
abbrev pub invariant-loop-ledger : goal.invariant-loop-ledger
invariant-loop-ledger l = string_bytes l.text ≡ string_bytes l.fn.text ++ flat_map ledger_text (take l.ledger-index l.ledgers)
