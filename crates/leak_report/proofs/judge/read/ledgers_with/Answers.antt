-- One word alone is no ledger.
use Rattle.std.proofs.Common.{◌++◌, ◌∙◌, sym, ap, map, arith}
use Rattle.std.proofs.lemmas.List.{append-nil, length-map}
use Rattle.leak_report.proofs.LineLemmas.{ledgers_with-short}
use Rattle.leak_report.proofs.judge.read.ledgers_with.Goals as goal

pub returns : goal.returns
returns c =
    let left = map (λ word. word.now) c.loop-left.left.now in
    sym (ap (λ xs. c.loop-left.ledgers.items ++ xs) (ledgers_with-short left (omega (arith, length-map c.loop-left.left.now (λ word. word.now), c.in_default.len_below))) ∙ append-nil _)
    ∙ c.loop-left.invariant
