use Rattle.std.proofs.Common.{refl}
use Rattle.alloc_tree.proofs.OpeningLemmas.{only_none}
use Rattle.alloc_tree.proofs.rows.Rows.opened.Goals as goal

pub returns : goal.returns
returns c =
    let items = c.in_ok-rows.ensures.items_if_clones_equal (only_none _ (λ x h. h)) in
    rw (items, c.root.ensures) refl
