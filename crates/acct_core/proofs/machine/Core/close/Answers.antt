use Rattle.std.proofs.Common.{◌≡◌, ◌<◌, ℕ, length, set, All, IsTrue, arith}
use Rattle.std.specs.List.{HoldsAt}
use Rattle.acct_core.specs.declared.event.Event.TheVariants.{Close}
use Rattle.acct_core.specs.declared.told.Told.TheVariants.{Closed}
use Rattle.acct_core.specs.Rows.{is_at}
use Rattle.acct_core.specs.Applies.{closed_row}
use Rattle.acct_core.specs.State.{state_of}
use Rattle.acct_core.proofs.CoreLemmas.{IsStep}
use Rattle.acct_core.proofs.OpenCloseLemmas.{close_step, frees_slot, frees_none}
use Rattle.acct_core.proofs.machine.Core.close.Goals as goal

-- the closing of a node that stands on a slot, as a step of the machine
closed_on_slot : (c : goal.After-self-in-Some-backing-1) → IsStep c.args.self.now (Close c.args.node) Closed
    (state_of (set c.self.inside.rows.items c.args.node.0 (closed_row c.in-Some.row.now))
    (set c.self.inside.slots.items c.in-Some-backing.i c.set_child.new.self) c.self.inside.bytes) c.self.inside.made
closed_on_slot c =
    let there = c.in-Some.ensures.item.3.0 in
    let at = c.in-Some.ensures.item.1 in
    let unused : ◌≡◌ {A = ℕ} c.in-Some.row.now.uses 0 = omega (arith, c.if-uses-gt0.false) in
    let stands : (c.in-Some-backing.i < length c.self.inside.slots.items)
    × HoldsAt (λ x. IsTrue (is_at x.under c.args.node.0)) c.self.inside.slots.items c.in-Some-backing.i =
    rw c.as_slice.ensures.value at c.in-Some-backing.ensures.some in
    let frees = frees_slot c.self.inside.rows.items c.self.inside.slots.items c.self.inside.bytes c.args.self.now c.self.view_is
    c.self.invariant.0 c.args.node.0 c.in-Some.row.now there at c.if-not-row.false unused
    c.in-Some-backing.i c.index_mut.result.now c.set_child.new.self stands.0 stands.1 c.index_mut.ensures.value c.set_child.ensures in
    close_step c.self.inside.rows.items c.self.inside.slots.items c.self.inside.bytes c.args.self.now c.self.view_is
    c.self.invariant.0 c.args.node.0 c.in-Some.row.now there at c.if-not-row.false unused
    (set c.self.inside.slots.items c.in-Some-backing.i c.set_child.new.self) frees c.self.inside.made c.self.invariant.1

-- the closing of a node that stands on none
closed_alone : (c : goal.In_default-backing) → IsStep c.args.self.now (Close c.args.node) Closed
    (state_of (set c.self.inside.rows.items c.args.node.0 (closed_row c.in-Some.row.now)) c.self.inside.slots.items c.self.inside.bytes)
    c.self.inside.made
closed_alone c =
    let there = c.in-Some.ensures.item.3.0 in
    let at = c.in-Some.ensures.item.1 in
    let unused : ◌≡◌ {A = ℕ} c.in-Some.row.now.uses 0 = omega (arith, c.if-uses-gt0.false) in
    let nobody : All (λ x. IsTrue (is_at x.under c.args.node.0) → ⊥) c.self.inside.slots.items =
    rw c.as_slice.ensures.value at c.in_default-backing.ensures.none in
    let frees = frees_none c.self.inside.rows.items c.self.inside.slots.items c.self.inside.bytes c.args.self.now c.self.view_is
    c.self.invariant.0 c.args.node.0 c.in-Some.row.now there at c.if-not-row.false unused nobody in
    close_step c.self.inside.rows.items c.self.inside.slots.items c.self.inside.bytes c.args.self.now c.self.view_is
    c.self.invariant.0 c.args.node.0 c.in-Some.row.now there at c.if-not-row.false unused
    c.self.inside.slots.items frees c.self.inside.made c.self.invariant.1

pub invariant_of-self-in-Some-backing : goal.invariant_of-self-in-Some-backing
invariant_of-self-in-Some-backing c = ((closed_on_slot c).lawful, (closed_on_slot c).made)

pub invariant_of-self-in_default-backing : goal.invariant_of-self-in_default-backing
invariant_of-self-in_default-backing c = ((closed_alone c).lawful, (closed_alone c).made)

pub returns-in-Some-backing-clause-step : goal.returns-in-Some-backing-clause-step
returns-in-Some-backing-clause-step c = (closed_on_slot c).steps

pub returns-in_default-backing-clause-step : goal.returns-in_default-backing-clause-step
returns-in_default-backing-clause-step c = (closed_alone c).steps

pub returns-in-Some-backing-clause-lawful : goal.returns-in-Some-backing-clause-lawful
returns-in-Some-backing-clause-lawful c = (closed_on_slot c).lawful

pub returns-in_default-backing-clause-lawful : goal.returns-in_default-backing-clause-lawful
returns-in_default-backing-clause-lawful c = (closed_alone c).lawful
