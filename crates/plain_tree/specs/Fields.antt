-- What the fields of a plain tree stand for.
use Rattle.plain_tree.specs.declared.plain_tree.PlainTree.TheInside.{Inside}
use Rattle.plain_tree.specs.PlainTree.{SampledTree, IsSoundTree}

abbrev pub sampled_tree : Inside → SampledTree
sampled_tree tree = record {
  state = record { nodes = tree.nodes.items; chunks = tree.chunks.items; next = tree.next; drawn = tree.drawn };
  samples = tree.samples.items;
}

abbrev pub HasSoundFields : Inside → Type 0
HasSoundFields tree = IsSoundTree (sampled_tree tree)
