use Rattle.std.proofs.Common.{◌∙◌, ap, sym, map, List}
use Rattle.mem_model.specs.Chunk.{Chunk, chunk_at}
use Rattle.alloc_tree.specs.Chunks.{chunk_of, with_changed}
use Rattle.alloc_tree.proofs.ChunkLemmas.{found_at, none_changed, set_changed, set_in_order}
use Rattle.alloc_tree.proofs.chunks.Chunks.make_owner.Goals as goal

pub returns-in_default : goal.returns-in_default
returns-in_default c =
    let change : Chunk → Chunk = λ chunk. record chunk { owner = c.args.at } in
    ap (λ m. map chunk_of m.entries) c.get_mut.follows.holds-at-none
    ∙ none_changed _ c.args.number (sym c.in_default.ensures.value) change ∙ ap (with_changed change c.args.number) c.self.view_is

pub make_owner-requires : goal.make_owner-requires
make_owner-requires c =
    let found = found_at _ c.args.number (sym c.in-Some.ensures.value) in
    c.requires.refers (chunk_of (c.args.number, c.in-Some.ledgers.now))
    (ap (λ (chunks : List Chunk). chunk_at chunks c.args.number) (sym c.self.view_is) ∙ found)

pub invariant_of-self-2 : goal.invariant_of-self-2
invariant_of-self-2 c = set_in_order _ c.args.number c.make_owner.new.self c.self.invariant
    (c.get_mut.follows.holds c.make_owner.new.self).0

pub returns : goal.returns
returns c =
    let change : Chunk → Chunk = λ chunk. record chunk { owner = c.args.at } in
    set_changed _ c.args.number (sym c.in-Some.ensures.value) change c.make_owner.new.self c.self.invariant
    (c.get_mut.follows.holds c.make_owner.new.self).0
    (ap (λ l. chunk_of (c.args.number, l)) c.make_owner.ensures.owner) ∙ ap (with_changed change c.args.number) c.self.view_is
