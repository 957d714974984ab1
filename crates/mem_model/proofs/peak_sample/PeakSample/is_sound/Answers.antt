use Rattle.mem_model.proofs.peak_sample.PeakSample.is_sound.Goals as goal

pub returns-then-is_allocator_tree : goal.returns-then-is_allocator_tree
returns-then-is_allocator_tree c =
    let tree = rw c.deref.ensures.value at c.is_allocator_tree.ensures in
    let bound = rw (c.deref-then-is_allocator_tree.ensures.value, c.deref-then-is_allocator_tree-2.ensures.value) at c.fits.ensures.all in
    rw (← c.self.view_is) (λ h. (tree.0 c.if-is_allocator_tree.true, bound.0 h), λ s. bound.1 s.1)
