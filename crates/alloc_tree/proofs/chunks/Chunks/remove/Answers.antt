use Rattle.std.proofs.Common.{◌∙◌, ap, sym, subst, map}
use Rattle.mem_model.specs.Release.{without_chunk}
use Rattle.mem_model.specs.Chunk.{AreInNumberOrder}
use Rattle.alloc_tree.specs.Chunks.{chunk_of}
use Rattle.alloc_tree.proofs.ChunkLemmas.{remove_chunk, without_in_order}
use Rattle.alloc_tree.proofs.chunks.Chunks.remove.Goals as goal

pub invariant_of-self : goal.invariant_of-self
invariant_of-self c =
    let old = c.self.inside.by_number.entries in
    subst AreInNumberOrder (sym (ap (map chunk_of) c.remove.ensures.entries ∙ remove_chunk old c.args.number c.self.invariant))
    (without_in_order (map chunk_of old) c.args.number c.self.invariant)

pub returns : goal.returns
returns c = ap (map chunk_of) c.remove.ensures.entries ∙ remove_chunk c.self.inside.by_number.entries c.args.number c.self.invariant
    ∙ ap (without_chunk c.args.number) c.self.view_is
