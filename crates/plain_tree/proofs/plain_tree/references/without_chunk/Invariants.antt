use Rattle.std.proofs.Common.{◌≡◌, take}
use Rattle.mem_model.specs.Release.{without_chunk}
use Rattle.plain_tree.proofs.plain_tree.references.without_chunk.Given as goal

abbrev pub invariant-loop-chunk : goal.invariant-loop-chunk
invariant-loop-chunk l = l.kept.items ≡ without_chunk l.number (take l.chunk-index l.chunks)
