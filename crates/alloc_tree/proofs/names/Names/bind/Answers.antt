-- The new entry is the last binding.
use Rattle.std.proofs.Common.{◌≡◌, ◌∷◌, [], ◌++◌, sym, subst}
use Rattle.alloc_tree.specs.Names.{bindings_of, AreLawful}
use Rattle.alloc_tree.proofs.NamesLemmas.{AreLawful-bound, bindings_of-insert}
use Rattle.alloc_tree.proofs.names.Names.bind.Goals as goal

-- what the map has then is one binding more
last : (c : goal.After-unwrap) → bindings_of c.insert.new.self.entries ≡ bindings_of c.self.inside.bound.entries ++ (
  c.args.name,
  c.args.at,
) ∷ []
last c =
    let asked = rw (← c.self.view_is) at c.requires.free in
    let inserted = rw c.unwrap.ensures at c.insert.ensures.entries in
    subst (λ es. bindings_of es ≡ bindings_of c.self.inside.bound.entries ++ (c.args.name, c.args.at) ∷ []) (sym inserted)
    (bindings_of-insert c.self.inside.bound.entries c.into_text.result c.args.name c.args.at c.into_text.ensures.value asked)

pub invariant_of-self : goal.invariant_of-self
invariant_of-self c =
    let asked = rw (← c.self.view_is) at c.requires.free in
    subst AreLawful (sym (last c))
    (AreLawful-bound (bindings_of c.self.inside.bound.entries) c.args.name c.args.at c.self.invariant asked
    c.into_text.ensures.well_formed)

pub returns-clause-bound : goal.returns-clause-bound
returns-clause-bound c = rw (← c.self.view_is) (last c)
