-- `ROOT` is apart, and the other names are looked up.
use Rattle.std.proofs.Common.{◌≡◌, sym, ◌∙◌}
use Rattle.alloc_tree.specs.Names.{allocator_of}
use Rattle.alloc_tree.proofs.NamesLemmas.{allocator_of-entries, found_by}
use Rattle.alloc_tree.proofs.names.Names.find.Goals as goal

answer : (c : goal.After-copied) → c.copied.result ≡ allocator_of c.args.self.now.bindings c.args.name.now
answer c = rw (← c.self.view_is)
    (allocator_of-entries c.self.inside.bound.entries c.args.name.now c.copied.result (sym c.eq.ensures ∙ c.if-eq.false)
    (c.copied.ensures ∙ c.get.ensures.value))

pub returns-clause-value : goal.returns-clause-value
returns-clause-value c = answer c

pub returns-clause-bound : goal.returns-clause-bound
returns-clause-bound c = found_by _ _ c.args.self.now.bindings c.copied.result (answer c)
