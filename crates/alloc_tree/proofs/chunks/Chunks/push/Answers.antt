use Rattle.std.proofs.Common.{◌∙◌, ◌++◌, ◌∷◌, [], sym, ap, subst, All, ◌<◌, List}
use Rattle.mem_model.specs.Chunk.{Chunk, new_chunk}
use Rattle.alloc_tree.proofs.ChunkLemmas.{pushed, pushed_in_order}
use Rattle.alloc_tree.proofs.chunks.Chunks.push.Goals as goal

pub invariant_of-self-2 : goal.invariant_of-self-2
invariant_of-self-2 c =
    let below = subst (λ (chunks : List Chunk). All (λ chunk. chunk.number < c.args.number) chunks)
    (sym c.self.view_is) c.requires.last in
    pushed_in_order c.self.inside.by_number.entries _ c.args.number c.in_ok-ledgers.ledgers below
    (rw c.in-Ok.is at c.insert.ensures.entries) c.self.invariant

pub returns-clause-pushed : goal.returns-clause-pushed
returns-clause-pushed c =
    let below = subst (λ (chunks : List Chunk). All (λ chunk. chunk.number < c.args.number) chunks)
    (sym c.self.view_is) c.requires.last in
    let made = c.in_ok-ledgers.ensures in
    pushed c.self.inside.by_number.entries _ c.args.number c.in_ok-ledgers.ledgers below
    (rw c.in-Ok.is at c.insert.ensures.entries) c.args.size c.args.owner made.size made.owner made.ledgers
    ∙ ap (λ (chunks : List Chunk). chunks ++ new_chunk c.args.number c.args.size c.args.owner ∷ []) c.self.view_is
