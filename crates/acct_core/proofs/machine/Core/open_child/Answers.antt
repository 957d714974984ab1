use Rattle.std.proofs.Common.{◌≡◌, ◌+◌, None, set, refl}
use Rattle.acct_core.specs.declared.event.Event.TheVariants.{Open}
use Rattle.acct_core.specs.declared.told.Told.TheVariants.{Opened}
use Rattle.acct_core.specs.Lawful.{PaysFor}
use Rattle.acct_core.specs.Slots.{claim_of}
use Rattle.acct_core.specs.State.{state_of}
use Rattle.acct_core.proofs.CoreLemmas.{IsStep}
use Rattle.acct_core.proofs.OpenCloseLemmas.{open_step}
use Rattle.acct_core.proofs.machine.Core.open_child.Goals as goal

-- the making of the child, as a step of the machine
opened : (c : goal.After-self-4-1) → IsStep c.args.self.now (Open c.args.claim c.args.reservation c.args.limit)
    (Opened (record { 0 = c.self.inside.made }))
    (state_of (set c.self.inside.rows.items c.self.inside.made c.child.result)
    (set c.self.inside.slots.items c.args.claim c.set_child.new.self) c.self.inside.bytes) (c.self.inside.made + 1)
opened c =
    let free : (c.in-Some.slot.now.under ≡ None) × PaysFor c.args.reservation (claim_of c.in-Some.slot.now).phase =
    c.can_carry.ensures.0 c.if-not-can_carry.false in
    open_step c.self.inside.rows.items c.self.inside.slots.items c.self.inside.bytes c.args.self.now c.self.view_is
    c.self.invariant.0 c.self.inside.made c.self.invariant.1 c.args.claim c.args.reservation c.args.limit
    c.in-Some.slot.now c.set_child.new.self c.child.result c.in-Some.ensures.item.3.0 c.in-Some.ensures.item.1 free.0 free.1
    c.if-limit-reservation.false c.if-self-ge-MOST_ALLOCATORS.false c.set_child.ensures c.child.ensures

pub invariant_of-self-2 : goal.invariant_of-self-2
invariant_of-self-2 c = ((opened c).lawful, (opened c).made)

pub returns-clause-step : goal.returns-clause-step
returns-clause-step c = (opened c).steps

pub returns-clause-taken : goal.returns-clause-taken
returns-clause-taken c = (λ e. (opened c).taken, λ can. refl)

pub returns-clause-lawful : goal.returns-clause-lawful
returns-clause-lawful c = (opened c).lawful
