-- The cases stand in `ReleaseLemmas`; here they meet the fields.
use Rattle.std.proofs.Common.{sym, ◌∙◌, arith, refl}
use Rattle.ledger_map.specs.Fields.{ledger_state}
use Rattle.mem_model.proofs.LedgerCountLemmas.{count_of-with_count}
use Rattle.ledger_map.proofs.ReleaseLemmas.{IsReleased, released, TakesOne-from}
use Rattle.ledger_map.proofs.ledgers.Ledgers.release.Goals as goal

pub of_release-after-requires : goal.of_release-after-requires
of_release-after-requires c =
    rw (c.as_slice.ensures, c.in-Some.ensures.items) (c.in-Some.ensures.left.1 ∙ sym (count_of-with_count c.self.inside.ledgers.items c.args.at.0 _ c.self.invariant.lawful.in_order))

-- the state that is left is lawful, and the answer follows the rule
shown : (c : goal.After-self-1)
    → IsReleased (ledger_state c.self.inside) (ledger_state (record { size = c.self.inside.size; owner = c.owner_from-self-inside.result; ledgers = c.take_one.new.entries })) c.args.at.0 c.of_release-after.result
shown c =
    let answer = rw c.as_slice.ensures at c.of_release-after.ensures in
    released _ c.take_one.new.entries.items c.args.at.0 _ c.of_release-after.result c.owner_from-self-inside.result c.self.invariant.lawful c.in-Some.ensures.left.0 c.in-Some.ensures.items answer c.owner_from-self-inside.ensures

pub invariant_of-self-2 : goal.invariant_of-self-2
invariant_of-self-2 c = record { lawful = (shown c).lawful; within = c.take_one.ensures.within }

pub returns-clause-rule : goal.returns-clause-rule
returns-clause-rule c = rw (← c.self.view_is) (shown c).rule

pub returns-clause-taken : goal.returns-clause-taken
returns-clause-taken c =
    rw (← c.self.view_is) (TakesOne-from _ _ c.args.at.0 c.self.invariant.lawful c.in-Some.ensures.left.0 c.in-Some.ensures.items refl
    (omega (arith, c.self.invariant.within, c.take_one.ensures.capacity, c.take_one.ensures.within)))

pub returns-clause-lawful : goal.returns-clause-lawful
returns-clause-lawful c = (shown c).lawful
