use Rattle.alloc_tree.proofs.solo_tree.SoloTree.+is_over.Given as goal

abbrev pub decreases-is_over : goal.decreases-is_over
decreases-is_over l = l.at.0
