use Rattle.mem_model.proofs.tree_node.is_allocator_tree.Goals as goal

pub returns : goal.returns
returns c =
    let ordered = c.rise.ensures.0 c.if-not-rise.false in
    let root = c.have_a_root.ensures.0 c.if-not-have_a_root.false in
    (λ h. record { ordered = ordered; root = root; parents = c.have_parents.ensures.0 h }, λ tree. c.have_parents.ensures.1 tree.parents)
