use Rattle.std.proofs.Common.{◌∙◌}
use Rattle.std.proofs.lemmas.List.{with_items_is}
use Rattle.alloc_tree.proofs.rows.Rows.request.Goals as goal

pub returns-clause-answers : goal.returns-clause-answers
returns-clause-answers c = λ charges balance.
    let items = with_items_is c.self.inside.rows c.request.new.rows (c.request.ensures.kept.length ∙ c.deref_mut.ensures.len) in
    let answers = rw (c.deref_mut.ensures.value ∙ c.self.view_is) at c.request.ensures.answers in
    rw items (answers charges balance)
