use Rattle.std.proofs.Common.{◌∙◌, ap, subst}
use Rattle.mem_model.specs.Chunk.{chunk_at, AreInNumberOrder}
use Rattle.alloc_tree.proofs.ChunkLemmas.{found_chunk}
use Rattle.alloc_tree.proofs.chunks.Chunks.get.Goals as goal

pub returns-clause-chunk : goal.returns-clause-chunk
returns-clause-chunk c = found_chunk (λ r. r.now) c.get.result c.self.inside.by_number.entries c.args.number c.get.ensures.value
    ∙ ap (λ chunks. chunk_at chunks c.args.number) c.self.view_is

pub returns-clause-ordered : goal.returns-clause-ordered
returns-clause-ordered c = subst AreInNumberOrder c.self.view_is c.self.invariant
