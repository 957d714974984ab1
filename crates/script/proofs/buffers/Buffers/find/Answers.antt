-- The map's look-up is one among bindings.
use Rattle.std.proofs.Common.{◌∙◌}
use Rattle.script.specs.Bound.{buffer_bindings}
use Rattle.script.proofs.BufferLemmas.{bound_within, lookup-bindings}
use Rattle.script.proofs.buffers.Buffers.find.Goals as goal

pub returns-clause-value : goal.returns-clause-value
returns-clause-value c =
    rw (← c.self.view_is) (c.copied.ensures ∙ rw c.as_str.ensures.value at c.get.ensures.value ∙ lookup-bindings c.self.inside.bound.entries c.args.name.now)

pub returns-clause-fits : goal.returns-clause-fits
returns-clause-fits c =
    bound_within (buffer_bindings c.self.inside.bound.entries) c.args.name.now _ c.self.invariant
    (c.copied.ensures ∙ rw c.as_str.ensures.value at c.get.ensures.value ∙ lookup-bindings c.self.inside.bound.entries c.args.name.now)
