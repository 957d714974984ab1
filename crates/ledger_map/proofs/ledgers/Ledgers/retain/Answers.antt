-- The owner keeps its count, and one reference more is few.
use Rattle.std.proofs.Common.{arith, refl}
use Rattle.mem_model.proofs.LedgerCountLemmas.{count_of-le-total_of}
use Rattle.ledger_map.proofs.RetainLemmas.{AreLawfulLedgers-retained, AddsOne-from}
use Rattle.ledger_map.proofs.ledgers.Ledgers.retain.Goals as goal

pub add_one-requires-clause-fits : goal.add_one-requires-clause-fits
add_one-requires-clause-fits c =
    omega (arith, count_of-le-total_of c.self.inside.ledgers.items c.args.at.0, c.self.invariant.lawful.few_references)

pub invariant_of-self : goal.invariant_of-self
invariant_of-self c =
    let asked = rw (← c.self.view_is) at c.requires in
    record {
      lawful = AreLawfulLedgers-retained _ c.add_one.new.entries.items c.args.at.0 _ c.self.invariant.lawful asked.live asked.few_references c.add_one.ensures.items;
      within = c.add_one.ensures.within;
    }

pub returns-clause-added : goal.returns-clause-added
returns-clause-added c =
    rw (← c.self.view_is) (AddsOne-from _ _ c.args.at.0 c.self.invariant.lawful c.add_one.ensures.items refl refl
    (omega (arith, c.self.invariant.within, c.add_one.ensures.capacity, c.add_one.ensures.within)))

pub returns-clause-lawful : goal.returns-clause-lawful
returns-clause-lawful c =
    let asked = rw (← c.self.view_is) at c.requires in
    AreLawfulLedgers-retained _ c.add_one.new.entries.items c.args.at.0 _ c.self.invariant.lawful asked.live asked.few_references c.add_one.ensures.items
