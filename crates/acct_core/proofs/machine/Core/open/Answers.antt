use Rattle.acct_core.proofs.OpeningLemmas.{opened_lawful}
use Rattle.acct_core.proofs.machine.Core.open.Goals as goal

pub invariant_of-result : goal.invariant_of-result
invariant_of-result c = opened_lawful c.args.root_limit c.args.claims c.args.bytes c.in_ok-rows.rows.items c.in_ok-slots.slots.items
    c.in_ok-rows.ensures c.in_ok-slots.ensures c.ranges.claims.fits c.requires.bytes

pub returns-clause-lawful : goal.returns-clause-lawful
returns-clause-lawful c = (opened_lawful c.args.root_limit c.args.claims c.args.bytes c.in_ok-rows.rows.items c.in_ok-slots.slots.items
    c.in_ok-rows.ensures c.in_ok-slots.ensures c.ranges.claims.fits c.requires.bytes).0
