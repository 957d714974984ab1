use Rattle.std.proofs.Common.{◌≡◌, take}
use Rattle.mem_model.specs.Chunk.{with_chunk}
use Rattle.plain_tree.proofs.plain_tree.references.with_chunk.Given as goal

abbrev pub invariant-loop-old : goal.invariant-loop-old
invariant-loop-old l = l.changed.items ≡ with_chunk l.new (take l.old-index l.chunks)
