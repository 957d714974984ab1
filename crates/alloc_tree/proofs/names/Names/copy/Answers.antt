-- Clones are bound alike.
use Rattle.std.proofs.Common.{sym, subst}
use Rattle.alloc_tree.specs.Names.{AreLawful}
use Rattle.alloc_tree.proofs.NamesLemmas.{bindings_of-clone}
use Rattle.alloc_tree.proofs.names.Names.copy.Goals as goal

pub invariant_of-result : goal.invariant_of-result
invariant_of-result c = subst AreLawful (sym (bindings_of-clone c.self.inside.bound.entries c.in-Ok.bound.entries c.in-Ok.ensures.cases))
    c.self.invariant

pub returns-in-Ok : goal.returns-in-Ok
returns-in-Ok c = record {
  value =
      rw (← c.self.view_is) (bindings_of-clone c.self.inside.bound.entries c.in-Ok.bound.entries c.in-Ok.ensures.cases);
}
