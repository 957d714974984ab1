-- The map's entry is a binding, behind the others since the name was free.
use Rattle.std.proofs.Common.{◌∙◌, ap}
use Rattle.script.specs.Bound.{buffer_bindings}
use Rattle.script.proofs.BufferLemmas.{bindings-insert, pushed_within}
use Rattle.script.proofs.buffers.Buffers.share.Goals as goal

pub invariant_of-self-2 : goal.invariant_of-self-2
invariant_of-self-2 c =
    let entries = c.self.inside.bound.entries in
    let free = rw (← c.self.view_is) at c.requires.free in
    pushed_within (buffer_bindings entries) _ c.args.name.now c.args.buffer c.self.invariant c.requires.fits
    (ap buffer_bindings c.in_ok-insert.ensures.entries ∙ bindings-insert entries c.as_str.result c.args.name.now c.args.buffer c.as_str.ensures.value free)

pub returns : goal.returns
returns c =
    let entries = c.self.inside.bound.entries in
    let free = rw (← c.self.view_is) at c.requires.free in
    rw (← c.self.view_is) (ap (λ bound. record { bound = bound; given = c.self.inside.given.items }) (ap buffer_bindings c.in_ok-insert.ensures.entries ∙ bindings-insert entries c.as_str.result c.args.name.now c.args.buffer c.as_str.ensures.value free))
