-- The root's name is a name.
use Rattle.std.proofs.Common.{sym, subst}
use Rattle.alloc_tree.specs.Names.{bindings_of, AreLawful}
use Rattle.alloc_tree.proofs.NamesLemmas.{AreLawful-root}
use Rattle.alloc_tree.proofs.names.Names.new.Goals as goal

pub invariant_of-result : goal.invariant_of-result
invariant_of-result c = subst (λ es. AreLawful (bindings_of es)) (sym c.new.ensures.empty) AreLawful-root
