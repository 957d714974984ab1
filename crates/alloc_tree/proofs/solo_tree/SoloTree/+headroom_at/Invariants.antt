use Rattle.alloc_tree.proofs.solo_tree.SoloTree.+headroom_at.Given as goal

abbrev pub decreases-headroom_at : goal.decreases-headroom_at
decreases-headroom_at l = l.at.0
