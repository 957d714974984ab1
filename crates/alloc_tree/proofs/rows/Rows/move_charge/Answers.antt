use Rattle.std.proofs.Common.{◌∙◌}
use Rattle.std.proofs.lemmas.List.{with_items_is}
use Rattle.alloc_tree.proofs.rows.Rows.move_charge.Goals as goal

pub returns-clause-moved : goal.returns-clause-moved
returns-clause-moved c = λ before after balance moves.
    let items = with_items_is c.self.inside.rows c.move_charge.new.rows (c.move_charge.ensures.kept.length ∙ c.deref_mut.ensures.len) in
    let moved = rw (c.deref_mut.ensures.value ∙ c.self.view_is) at c.move_charge.ensures.moved in
    rw items (moved before after balance moves)
