-- `ROOT` is apart, and the other allocators are searched for.
use Rattle.std.proofs.Common.{◌≡◌, ◌∙◌, ap, Some, None}
use Rattle.alloc_tree.specs.Names.{name_of}
use Rattle.alloc_tree.proofs.NamesLemmas.{name_of-entries, found_by}
use Rattle.alloc_tree.proofs.names.Names.name_of.Goals as goal

unnamed : (c : goal.After-from_residual) → None ≡ name_of c.args.self.now.bindings c.args.at.0
unnamed c = rw (← c.self.view_is) (name_of-entries c.self.inside.bound.entries c.args.at.0 None c.if-at-eq0.false c.in_err-name.ensures)

pub returns-in_err-name-clause-value : goal.returns-in_err-name-clause-value
returns-in_err-name-clause-value c = rw c.from_residual.ensures (unnamed c)

pub returns-in_err-name-clause-named : goal.returns-in_err-name-clause-named
returns-in_err-name-clause-named c = rw c.from_residual.ensures (found_by _ _ c.args.self.now.bindings None (unnamed c))

pub returns-clause-value : goal.returns-clause-value
returns-clause-value c =
    rw (← c.self.view_is) (ap Some c.as_str.ensures.value
    ∙ name_of-entries c.self.inside.bound.entries c.args.at.0 (Some (c.in_ok-name.name.now, c.in_ok-name.field-0-1.now)) c.if-at-eq0.false
    c.in_ok-name.ensures)

pub returns-clause-named : goal.returns-clause-named
returns-clause-named c = found_by _ _ c.args.self.now.bindings (Some c.as_str.result.now) (returns-clause-value c)
