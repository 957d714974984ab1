use Rattle.std.proofs.Common.{◌-◌, set, refl}
use Rattle.acct_core.specs.State.{state_of}
use Rattle.acct_core.proofs.CoreLemmas.{IsStep, turn_safe, turn_outside, turns}
use Rattle.acct_core.proofs.machine.Core.turn.Goals as goal

pub take-requires : goal.take-requires
take-requires c =
    turn_safe c.self.inside.rows.items c.self.inside.slots.items c.self.inside.bytes c.args.self.now c.self.view_is
    c.self.invariant.0 c.args.event c.requires.kind c.args.claim c.requires.number
    c.in-Some.slot.now c.in-Some.ensures.item.3.0 c.in-Some.ensures.item.1 c.level_of-level.result c.level_of-level.ensures
    c.in-Some-get_mut.row.now c.in-Some-get_mut.ensures.item.3.0 c.in-Some-get_mut.ensures.item.1

pub returns-in_default-get_mut-clause-taken : goal.returns-in_default-get_mut-clause-taken
returns-in_default-get_mut-clause-taken c = (
  λ e. absurd cc,
  λ can. absurd (turn_outside c.self.inside.rows.items c.self.inside.slots.items c.self.inside.bytes c.args.self.now c.self.view_is
      c.self.invariant.0 c.args.event c.requires.kind c.args.claim c.requires.number
      c.in-Some.slot.now c.in-Some.ensures.item.3.0 c.in-Some.ensures.item.1 c.level_of-level.result c.level_of-level.ensures
      c.in_default-get_mut.ensures.item.3 can),
)

-- the turn, as a step of the machine
turned : (c : goal.After-self-4-1) → IsStep c.args.self.now c.args.event c.in_ok-told.told
    (state_of (set c.self.inside.rows.items c.level_of-level.result c.take.new.row)
    (set c.self.inside.slots.items c.args.claim c.take.new.self) (c.self.inside.bytes - c.args.size)) c.self.inside.made
turned c =
    turns c.self.inside.rows.items c.self.inside.slots.items c.self.inside.bytes c.args.self.now c.self.view_is
    c.self.invariant.0 c.args.event c.requires.kind c.args.claim c.requires.number
    c.in-Some.slot.now c.in-Some.ensures.item.3.0 c.in-Some.ensures.item.1 c.level_of-level.result c.level_of-level.ensures
    c.in-Some-get_mut.row.now c.take.new.row c.take.new.self c.in_ok-told.told c.in-Some-get_mut.ensures.item.3.0
    c.in-Some-get_mut.ensures.item.1 c.in_ok-told.ensures.ok c.args.size c.self.inside.made c.requires.spends c.if-size-self.false
    c.self.invariant.1

pub invariant_of-self-2 : goal.invariant_of-self-2
invariant_of-self-2 c = ((turned c).lawful, (turned c).made)

pub returns-clause-step : goal.returns-clause-step
returns-clause-step c = (turned c).steps

pub returns-clause-taken : goal.returns-clause-taken
returns-clause-taken c = (λ e. (turned c).taken, λ can. refl)

pub returns-clause-lawful : goal.returns-clause-lawful
returns-clause-lawful c = (turned c).lawful
