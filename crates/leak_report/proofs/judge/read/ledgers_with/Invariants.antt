use Rattle.std.proofs.Common.{◌≡◌, ◌++◌, length, map}
use Rattle.leak_report.specs.ReadReport.{ledgers_with}
use Rattle.leak_report.proofs.judge.read.ledgers_with.Given as goal

-- the ledgers so far, and those of the words that are left
abbrev pub invariant-loop-left : goal.invariant-loop-left
invariant-loop-left l = l.ledgers.items ++ ledgers_with (map (λ word. word.now) l.left) ≡ ledgers_with (map (λ word. word.now) l.words)

abbrev pub decreases-loop-left : goal.decreases-loop-left
decreases-loop-left l = length l.left
