-- The ledger that was read at the place is its own, or another, or there is none.
use Rattle.std.proofs.Common.{sym, ◌∙◌}
use Rattle.std.proofs.lemmas.Bool.{eqb-true, eqb-false}
use Rattle.mem_model.proofs.LedgerCountLemmas.{count_of-other, count_of-past, IsLedgerAt-read}
use Rattle.ledger_map.proofs.place.place_of.Goals as goal

pub returns-in_default-clause-found : goal.returns-in_default-clause-found
returns-in_default-clause-found c =
    let other = eqb-false c.in-Some.ledger.now.at.0 c.args.at.0 (sym c.eq.ensures ∙ c.if-eq.false) in
    (λ no. absurd (cc), λ some. absurd (count_of-other c.args.ledgers.now c.args.at.0 c.ledgers_before-place.result c.in-Some.ledger.now c.requires c.ledgers_before-place.ensures c.in-Some.ensures.lookup.1 other some))

pub returns-in_default-2-clause-found : goal.returns-in_default-2-clause-found
returns-in_default-2-clause-found c =
    let lookup = rw c.in_default.is at c.get.ensures in
    (λ no. absurd (cc), λ some. absurd (count_of-past c.args.ledgers.now c.args.at.0 c.ledgers_before-place.result c.requires c.ledgers_before-place.ensures lookup.lookup.3 some))

pub returns-in-Some-clause-ledger : goal.returns-in-Some-clause-ledger
returns-in-Some-clause-ledger c =
    let same = eqb-true c.in-Some.ledger.now.at.0 c.args.at.0 (sym c.eq.ensures ∙ c.if-eq.true) in
    IsLedgerAt-read c.args.ledgers.now c.args.at.0 c.ledgers_before-place.result c.in-Some.ledger.now c.requires c.ledgers_before-place.ensures c.in-Some.ensures.lookup.3.0 c.in-Some.ensures.lookup.1 same
